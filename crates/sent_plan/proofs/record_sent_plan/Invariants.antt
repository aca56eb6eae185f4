-- What the packets that are left make of the observer so far is what all of them make of the first; the observer is well
-- formed, in the same columns.
use mathlib.Core.Path.{◌≡◌}
use mathlib.Core.Bool.{true}
use Rattle.plan.specs.Plan.{packets_of}
use Rattle.rows.specs.Columns.{columns_written, SameWritten}
use Rattle.observer.specs.Judge.{well_formed}
use Rattle.observer.specs.Answer.{observer_of}
use Rattle.sent_plan.specs.SendingPlan.{send_in_turn}
use Rattle.sent_plan.proofs.SendingPlan.{left_from}
use Rattle.sent_plan.proofs.record_sent_plan.Given as goal

abbrev pub invariant-loop-k : goal.invariant-loop-k
invariant-loop-k l = record {
  leaves : (send_in_turn (observer_of (columns_written l.sheet) l.counts) (left_from l.plan l.next_sequence l.k)).observer
      ≡ (send_in_turn (observer_of (columns_written l.initial.sheet) l.initial.counts) (packets_of l.plan l.next_sequence)).observer;
  well : well_formed (observer_of (columns_written l.sheet) l.counts) ≡ true;
  same : SameWritten l.initial.sheet l.sheet;
}
