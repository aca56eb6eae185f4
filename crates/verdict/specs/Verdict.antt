-- The verdict that a crew reads, from a report, with the numbers that say why.
use Rattle.std.specs.Prelude.{ℕ, Bool, true, false, not, ltb}
use Rattle.evidence.specs.declared.PacketContinuityReport.{PacketContinuityReport}
use Rattle.verdict.specs.declared.Verdict.{Verdict}
use Rattle.verdict.specs.declared.Verdict.TheVariants.{Pass, NothingReturned, TooManyLost, TooManyInARow}
use Rattle.verdict.specs.declared.Verdict.TheVariants.{OutageTooLong, ErrorIndicated}

-- The first verdict where the test holds, otherwise the second.
unfoldable pub either : Bool → Verdict → Verdict → Verdict
either true first second = first
either false first second = second

-- Where a number is above the budget's, this reason with both numbers; otherwise what follows.
abbrev pub above : ℕ → ℕ → (ℕ → ℕ → Verdict) → Verdict → Verdict
above number most reason = either (ltb most number) (reason number most)

-- A run passes where something returned and the report says that it kept to its budget. Otherwise the first reason
-- counts, in the order of document 01, leaf 7: "lost, longest run and longest duration within budget and no error
-- indication".
unfoldable pub verdict_of : PacketContinuityReport → Verdict
verdict_of report =
    either (not report.forwarding_proven) NothingReturned
    (either report.packet_continuity_proven Pass
    (above report.lost_packets report.budget.max_lost_packets TooManyLost
    (above report.max_consecutive_lost_packets report.budget.max_consecutive_lost_packets TooManyInARow
    (above report.max_gap_duration_ns report.budget.outage_budget_ns OutageTooLong
    (ErrorIndicated report.gtpu_error_indications)))))
