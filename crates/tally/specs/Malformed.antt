-- "Every call, the report too, judges 21 first." Demand 3 and the comparison with the Rust speak of well-formed sheets;
-- this is what every call answers on the others. proofs/Malformed.antt proves it.
use Rattle.std.specs.Prelude.{ℕ, ◌≡◌, List, false}
use Rattle.error.specs.Number.{malformed_observer}
use Rattle.error.specs.Outcome.{refused}
use Rattle.evidence.specs.declared.PacketContinuityBudget.{PacketContinuityBudget}
use Rattle.plan.specs.declared.TrafficPlan.{TrafficPlan}
use Rattle.observer.specs.Judge.{well_formed}
use Rattle.observer.specs.Observer.{Observer}
use Rattle.observer.specs.Sending.{record_sent}
use Rattle.sent_plan.specs.SendingPlan.{record_sent_plan}
use Rattle.return_calls.specs.Returns.{record_received_tpdu, record_return_message}
use Rattle.received_tpdus.specs.Received.{record_received_tpdus}
use Rattle.report.specs.Report.{reporting}

-- Each call refuses by 21, whatever else it is handed, and leaves the sheet and its own columns as they were.
pub record Refuses21 (o : Observer) : Type 0 where
  pub sending : (sequence time : ℕ)
      → record_sent o sequence time ≡ record { outcome = refused malformed_observer; observer = o }
  pub sending_a_plan : (plan : TrafficPlan) (next : ℕ)
      → record_sent_plan o plan next ≡ record { outcome = refused malformed_observer; observer = o }
  pub receiving : (time : ℕ) (tpdu : List ℕ)
      → record_received_tpdu o time tpdu ≡ record { outcome = refused malformed_observer; observer = o }
  pub receiving_a_list : (times lengths bytes returned numbers : List ℕ)
      → record_received_tpdus o times lengths bytes returned numbers
      ≡ record { outcome = refused malformed_observer; returned = returned; numbers = numbers; observer = o }
  pub returning : (time message_type : ℕ) (payload : List ℕ)
      → record_return_message o time message_type payload
      ≡ record { outcome = refused malformed_observer; observer = o }
  pub report : (window_start window_end : ℕ) (budget : PacketContinuityBudget)
      → reporting o window_start window_end budget ≡ refused malformed_observer

abbrev pub MalformedFirst : Type 0
MalformedFirst = (o : Observer) → well_formed o ≡ false → Refuses21 o
