-- Demand 3 speaks of single calls. A batch call leaves the observer that its single calls leave, so demand 3 also holds
-- for runs made with batch calls. proofs/Batches.antt proves it.
use Rattle.std.specs.Prelude.{ℕ, ◌≡◌, List, map, take}
use Rattle.error.specs.Outcome.{gives}
use Rattle.measurement.specs.declared.InnerIpFlow.{InnerIpFlow}
use Rattle.plan.specs.Plan.{packets_of}
use Rattle.plan.specs.declared.TrafficPlan.{TrafficPlan}
use Rattle.observer.specs.Counts.{fresh}
use Rattle.observer.specs.Observer.{Observer}
use Rattle.sent_plan.specs.SendingPlan.{record_sent_plan}
use Rattle.received_tpdus.specs.Received.{Received, tpdus_of, received_of, returns_in, record_received_tpdus}
use Rattle.tally.specs.Demand.{Accepted, send_all, Takes, tpdu_call, Handed, receive_all}

-- An accepted plan, entered in one call on a fresh observer. The call is accepted if and only if no single call refuses
-- a packet; it then leaves the sheet that demand 3 begins with, all packets sent in plan order.
pub record EnteredInOneCall (plan : TrafficPlan) (next : ℕ) (o : Observer) : Type 0 where
  pub all_sent : Takes plan next o
      → record_sent_plan o plan next ≡ record { outcome = gives tt; observer = send_all o (packets_of plan next) }
  pub only_if_all : (record_sent_plan o plan next).outcome ≡ gives tt → Takes plan next o

abbrev pub PlanEntered : Type 0
PlanEntered = (flow : InnerIpFlow) (plan : TrafficPlan) (next : ℕ) → Accepted flow plan next
    → (o : Observer) → o.counts ≡ fresh → EnteredInOneCall plan next o

-- A T-PDU of a list, handed to the single call.
abbrev pub handed_tpdu : Received → Handed
handed_tpdu r = record { call = tpdu_call; time = r.time; tpdu = r.tpdu }

-- A list of returns, taken in one call, leaves what the single calls leave; on a malformed sheet too, where every call
-- leaves all as it was.
abbrev pub ReturnsTaken : Type 0
ReturnsTaken = (o : Observer) (times lengths bytes returned numbers : List ℕ)
    → (record_received_tpdus o times lengths bytes returned numbers).observer
    ≡ receive_all o
    (map handed_tpdu (received_of times (take (returns_in times lengths returned numbers) (tpdus_of lengths bytes))))

pub record Batches : Type 0 where
  pub plan_entered : PlanEntered
  pub returns_taken : ReturnsTaken
