-- The verdict on a report for C: the report's figures against a budget that need not be its own.
use Rattle.std.specs.Prelude.{Option, Some, None, Bool, true, false, eqb, ltb}
use Rattle.evidence.specs.declared.LatencySummary.{LatencySummary}
use Rattle.evidence.specs.declared.PacketContinuityBudget.{PacketContinuityBudget}
use Rattle.evidence.specs.declared.PacketContinuityReport.{PacketContinuityReport}
use Rattle.report.specs.Report.{within_budget}
use Rattle.verdict.specs.Verdict.{verdict_of}
use Rattle.verdict.specs.declared.Verdict.{Verdict}
use Rattle.verdict.specs.declared.Verdict.TheVariants.{Pass, NothingReturned, TooManyLost, TooManyInARow}
use Rattle.verdict.specs.declared.Verdict.TheVariants.{OutageTooLong, ErrorIndicated}
use Rattle.testkit_sheet.specs.declared.TestkitContinuityReport.{TestkitContinuityReport}
use Rattle.testkit_sheet.specs.declared.TestkitVerdict.{TestkitVerdict}

unfoldable pub latency_given : Bool → LatencySummary → Option LatencySummary
latency_given present summary = elim present [ true ↦ Some summary | false ↦ None ]

-- The report with these figures and this budget. Its two verdicts are leaf 7's: "Forwarding: returned above 0.
-- Continuity: lost, longest run and longest duration within budget and no error indication."
abbrev pub held_to : TestkitContinuityReport → PacketContinuityBudget → PacketContinuityReport
held_to r budget = record {
  window_start_ns = r.window_start_ns;
  window_end_ns = r.window_end_ns;
  sent_packets = r.sent_packets;
  received_packets = r.received_packets;
  lost_packets = r.lost_packets;
  duplicate_packets = r.duplicate_packets;
  out_of_order_packets = r.out_of_order_packets;
  gtpu_error_indications = r.gtpu_error_indications;
  max_consecutive_lost_packets = r.max_consecutive_lost_packets;
  max_gap_duration_ns = r.max_gap_duration_ns;
  latency =
      latency_given r.has_latency
      (record { min_ns = r.min_ns; max_ns = r.max_ns; avg_ns = r.avg_ns });
  budget = budget;
  forwarding_proven = ltb 0 r.received_packets;
  packet_continuity_proven =
      within_budget budget r.lost_packets r.max_consecutive_lost_packets r.max_gap_duration_ns
      r.gtpu_error_indications;
}

-- A verdict in numbers: 0 pass, else its reason; the report's number and the budget's, 0 where it has none.
abbrev pub verdict_numbers : Verdict → TestkitVerdict
verdict_numbers Pass = record { reason = 0; measured = 0; allowed = 0 }
verdict_numbers NothingReturned = record { reason = 1; measured = 0; allowed = 0 }
verdict_numbers (TooManyLost lost most) = record { reason = 2; measured = lost; allowed = most }
verdict_numbers (TooManyInARow lost most) = record { reason = 3; measured = lost; allowed = most }
verdict_numbers (OutageTooLong outage most) = record { reason = 4; measured = outage; allowed = most }
verdict_numbers (ErrorIndicated indications) = record { reason = 5; measured = indications; allowed = 0 }

abbrev pub no_report : TestkitVerdict
no_report = record { reason = 6; measured = 0; allowed = 0 }

-- The call: reason 6 if the report's number is a refusal's, else the verdict on its figures.
unfoldable pub judging : TestkitContinuityReport → PacketContinuityBudget → TestkitVerdict
judging r budget =
    elim (eqb r.number 0) [
      | true ↦ verdict_numbers (verdict_of (held_to r budget))
      | false ↦ no_report
    ]
