-- What is claimed of what C is told: of the verdict on a report, and of what a datagram was.
use Rattle.std.specs.Prelude.{ℕ, ◌≤◌, ◌<◌, ◌≡◌}
use Rattle.error.specs.Outcome.{Outcome, refused, gives}
use Rattle.evidence.specs.declared.PacketContinuityBudget.{PacketContinuityBudget}
use Rattle.evidence.specs.declared.PacketContinuityReport.{PacketContinuityReport}
use Rattle.gtpu.specs.declared.RefusedTunnel.{RefusedTunnel}
use Rattle.observer.specs.Observer.{Observer}
use Rattle.observer.specs.declared.ObserverCounts.{ObserverCounts}
use Rattle.report.specs.Report.{reporting}
use Rattle.return_calls.specs.Kinds.{Kind}
use Rattle.verdict.specs.Verdict.{verdict_of}
use Rattle.verdict.specs.declared.Verdict.{Verdict}
use Rattle.verdict.specs.declared.Verdict.TheVariants.{Pass}
use Rattle.testkit_sheet.specs.Interface.{outcome_code, datagram_numbers, report_numbers}
use Rattle.testkit_sheet.specs.Verdict.{no_report, verdict_numbers, judging}
use Rattle.testkit_sheet.specs.declared.TestkitContinuityReport.{TestkitContinuityReport}
use Rattle.testkit_sheet.specs.declared.TestkitVerdict.{TestkitVerdict}

-- The verdict that a report gives by itself, or that there is no report.
abbrev pub says_itself : Outcome PacketContinuityReport → TestkitVerdict
says_itself (refused n) = no_report
says_itself (gives report) = verdict_numbers (verdict_of report)

-- Judged against the budget that it was made for, a report gets the verdict that it gives by itself: nothing is lost on
-- the way through C.
abbrev pub OwnBudget : Type 0
OwnBudget =
    (o : Observer) (window_start window_end : ℕ) (budget : PacketContinuityBudget)
    → judging (report_numbers (reporting o window_start window_end budget)) budget
    ≡ says_itself (reporting o window_start window_end budget)

-- Leaf 7 of a report's figures against a budget: "Forwarding: returned above 0. Continuity: lost, longest run and
-- longest duration within budget and no error indication." And that there is a report.
pub record Kept (r : TestkitContinuityReport) (budget : PacketContinuityBudget) : Type 0 where
  pub a_report : r.number ≡ 0
  pub some_returned : 0 < r.received_packets
  pub lost_within : r.lost_packets ≤ budget.max_lost_packets
  pub run_within : r.max_consecutive_lost_packets ≤ budget.max_consecutive_lost_packets
  pub outage_within : r.max_gap_duration_ns ≤ budget.outage_budget_ns
  pub none_indicated : r.gtpu_error_indications ≡ 0

-- C is told PASS, reason 0, exactly where the figures say so: for all figures and budgets, whatever the report states
-- of itself.
pub record PassInFigures (r : TestkitContinuityReport) (budget : PacketContinuityBudget) : Type 0 where
  pub passes : Kept r budget → (judging r budget).reason ≡ 0
  pub only_kept : (judging r budget).reason ≡ 0 → Kept r budget

abbrev pub PassesByFigures : Type 0
PassesByFigures = (r : TestkitContinuityReport) (budget : PacketContinuityBudget) → PassInFigures r budget

-- A verdict can be told from its numbers: reason 0 is PASS alone, that there was no report is none of the verdicts, and
-- no two verdicts have the same numbers.
pub record VerdictsTold : Type 0 where
  pub only_pass : (v : Verdict) → (verdict_numbers v).reason ≡ 0 → v ≡ Pass
  pub not_none : (v : Verdict) → (verdict_numbers v).reason ≡ no_report.reason → ⊥
  pub apart : (v w : Verdict) → verdict_numbers v ≡ verdict_numbers w → v ≡ w

-- And what a datagram was, from its own: only a refusal has code 0, and no two answers have the same numbers, nor two
-- tunnels. The code alone does not tell two ignored messages apart, so the type of the message stands beside it.
pub record DatagramsTold : Type 0 where
  pub only_refused : (x : Outcome Kind) → outcome_code x ≡ 0 → (n : ℕ) × (x ≡ refused n)
  pub apart : (x y : Outcome Kind) (s t : RefusedTunnel) (counts after : ObserverCounts)
      → datagram_numbers x s counts ≡ datagram_numbers y t after → (x ≡ y) × (s ≡ t) × (counts ≡ after)
