-- The verdict on a report: with a report and without, and against the report's own budget.
use Prim.Native.Nat.{ℕ}
use mathlib.Core.Path.{◌≡◌, refl, sym, ap, ◌∙◌}
use mathlib.Core.Bool.{Bool, true, false}
use mathlib.Core.Option.{Option, some, none}
use mathlib.Core.List.{List}
use lib.Dec.{eqb}
use Rattle.error.specs.Number.{malformed_observer}
use Rattle.error.specs.Outcome.{Outcome, refused, gives}
use Rattle.evidence.specs.Latency.{latency_means, latency_for}
use Rattle.std.specs.Prelude as code
use Rattle.evidence.specs.declared.LatencySummary.{LatencySummary}
use Rattle.evidence.specs.declared.PacketContinuityBudget.{PacketContinuityBudget}
use Rattle.evidence.specs.declared.PacketContinuityReport.{PacketContinuityReport}
use Rattle.observer.specs.Judge.{well_formed}
use Rattle.observer.specs.Observer.{Row, Observer, rows}
use Rattle.observer.specs.declared.ObserverCounts.{ObserverCounts}
use Rattle.observer.proofs.Calls.{judged_malformed, judged_well}
use Rattle.report.specs.Report.{latencies_of, latency_of, report_of, reporting}
use Rattle.verdict.specs.Verdict.{verdict_of}
use Rattle.testkit_sheet.specs.Claims.{says_itself, OwnBudget}
use Rattle.testkit_sheet.specs.Interface.{latency_numbers, report_numbers}
use Rattle.testkit_sheet.specs.Verdict.{latency_given, held_to, verdict_numbers, no_report, judging}
use Rattle.testkit_sheet.specs.declared.TestkitContinuityReport.{TestkitContinuityReport}

-- there is no report, and there is one
pub without : (r : TestkitContinuityReport) (budget : PacketContinuityBudget) → eqb r.number 0 ≡ false → no_report ≡ judging r budget
unfolding judging
without r budget e = rw (e, judging)

pub with_report : (r : TestkitContinuityReport) (budget : PacketContinuityBudget) → eqb r.number 0 ≡ true
    → verdict_numbers (verdict_of (held_to r budget)) ≡ judging r budget
unfolding judging
with_report r budget e = rw (e, judging)

-- latencies come back from their numbers
back : (l : Option LatencySummary)
    → latency_given (latency_numbers (latency_means (latency_for l))).present (latency_numbers (latency_means (latency_for l))).summary ≡ latency_for l
unfolding latency_given
back none = refl
back (some s) = refl

abbrev with_latency : PacketContinuityReport → code.Option LatencySummary → PacketContinuityReport
with_latency r l = record {
  window_start_ns = r.window_start_ns;
  window_end_ns = r.window_end_ns;
  sent_packets = r.sent_packets;
  received_packets = r.received_packets;
  lost_packets = r.lost_packets;
  duplicate_packets = r.duplicate_packets;
  out_of_order_packets = r.out_of_order_packets;
  gtpu_error_indications = r.gtpu_error_indications;
  max_consecutive_lost_packets = r.max_consecutive_lost_packets;
  max_gap_duration_ns = r.max_gap_duration_ns;
  latency = l;
  budget = r.budget;
  forwarding_proven = r.forwarding_proven;
  packet_continuity_proven = r.packet_continuity_proven;
}

-- a report comes back from its numbers, held to its own budget
held : (rs : List Row) (counts : ObserverCounts) (start end : ℕ) (budget : PacketContinuityBudget)
    → held_to (report_numbers (gives (report_of rs counts start end budget))) budget ≡ report_of rs counts start end budget
unfolding report_of
held rs counts start end budget = ap (with_latency (report_of rs counts start end budget)) (back (latency_of (latencies_of rs)))

module _ (o : Observer) (start end : ℕ) (budget : PacketContinuityBudget) where
  abbrev report : PacketContinuityReport
  report = report_of (rows o) o.counts start end budget

  own : (well : Bool) → well_formed o ≡ well → judging (report_numbers (reporting o start end budget)) budget ≡ says_itself (reporting o start end budget)
  unfolding reporting
  own true w =
      let e = judged_well o (gives report) w in
      ap (λ (x : Outcome PacketContinuityReport). judging (report_numbers x) budget) (sym e)
      ∙ sym (with_report (report_numbers (gives report)) budget refl)
      ∙ ap (λ (r : PacketContinuityReport). verdict_numbers (verdict_of r)) (held (rows o) o.counts start end budget)
      ∙ ap says_itself e
  own false w =
      let e = judged_malformed o (gives report) w in
      ap (λ (x : Outcome PacketContinuityReport). judging (report_numbers x) budget) (sym e)
      ∙ sym (without (report_numbers (refused malformed_observer)) budget refl)
      ∙ ap says_itself e

pub own_budget : OwnBudget
own_budget o start end budget = own o start end budget (well_formed o) refl
