-- What is claimed of entering a plan: all of it or nothing. proofs/PlanClaims.antt proves it.
use Rattle.std.specs.Prelude.{ℕ, ◌≤◌, ◌≡◌, true, replicate}
use mathlib.Core.List.{List, Memᴰ}
use Rattle.error.specs.Number.{observer_full}
use Rattle.error.specs.Outcome.{refused, gives}
use Rattle.measurement.specs.declared.MeasurementHeader.{MeasurementHeader}
use Rattle.plan.specs.Plan.{packets_of, judge_plan}
use Rattle.plan.specs.declared.TrafficPlan.{TrafficPlan}
use Rattle.observer.specs.Observer.{Observer, rows}
use Rattle.observer.specs.Judge.{well_formed}
use Rattle.sent_plan.specs.SendingPlan.{send_in_turn, rows_needed, free_rows, record_sent_plan}

-- A plan that was entered: the generator's judge gives its packets, the single calls in turn refuse none of them, and
-- the observer is the one that they leave.
pub record Entered (o : Observer) (plan : TrafficPlan) (next : ℕ) : Type 0 where
  pub packets : (judge_plan plan next).outcome ≡ gives (packets_of plan next)
  pub none_refused : (send_in_turn o (packets_of plan next)).numbers ≡ replicate plan.packet_count 0
  pub observer : (record_sent_plan o plan next).observer ≡ (send_in_turn o (packets_of plan next)).observer

abbrev pub EnteredWhole : Type 0
EnteredWhole = (o : Observer) (plan : TrafficPlan) (next : ℕ)
    → (record_sent_plan o plan next).outcome ≡ gives tt → Entered o plan next

-- 22 is due only if the single calls in turn would refuse some packet by 22. Sequences of the plan that are on the
-- sheet need no new row.
abbrev pub FullOnlyIfFull : Type 0
FullOnlyIfFull = (o : Observer) (plan : TrafficPlan) (next : ℕ)
    → (record_sent_plan o plan next).outcome ≡ refused observer_full
    → Memᴰ observer_full (send_in_turn o (packets_of plan next)).numbers

-- "A refusal returns its number and nothing else": no packet is entered.
abbrev pub RefusedWhole : Type 0
RefusedWhole = (o : Observer) (plan : TrafficPlan) (next n : ℕ)
    → (record_sent_plan o plan next).outcome ≡ refused n → (record_sent_plan o plan next).observer ≡ o

-- A plan that the generator's judge accepts is entered wherever its packets find rows: on every sheet that 21 does not
-- refuse, fresh or not.
abbrev pub EnteredWhereRoom : Type 0
EnteredWhereRoom = (o : Observer) (plan : TrafficPlan) (next : ℕ) (packets : List MeasurementHeader)
    → well_formed o ≡ true → (judge_plan plan next).outcome ≡ gives packets → rows_needed (rows o) packets ≤ free_rows o
    → (record_sent_plan o plan next).outcome ≡ gives tt

pub record AllOrNothing : Type 0 where
  pub entered_where_room : EnteredWhereRoom
  pub entered_whole : EnteredWhole
  pub full_only_if_full : FullOnlyIfFull
  pub refused_whole : RefusedWhole

-- A plan is judged by the generator before 22 is looked at: where its judge refuses, that number is the answer on every
-- sheet that 21 does not refuse, full or not.
abbrev pub PlanBeforeRoom : Type 0
PlanBeforeRoom = (o : Observer) (plan : TrafficPlan) (next n : ℕ) → well_formed o ≡ true
    → (judge_plan plan next).outcome ≡ refused n
    → record_sent_plan o plan next ≡ record { outcome = refused n; observer = o }
