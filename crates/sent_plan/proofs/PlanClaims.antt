-- The claims of specs/PlanClaims.antt, proved.
use Prim.Native.Nat.{ℕ}
use native.Mathlib.Omega.{arith}
use mathlib.Core.Path.{◌≡◌, refl, sym, ap, ◌∙◌}
use mathlib.Core.List.{List, Memᴰ}
use mathlib.Core.Bool.{Bool, true, false}
use lib.Dec.{ltb}
use lib.ListN.{replicate}
use borrow.Author.Tests.{ltb-true, ltb-false}
use Rattle.error.specs.Number.{malformed_observer, observer_full}
use Rattle.error.specs.Outcome.{Outcome, refused, gives}
use Rattle.error.proofs.Causes.{refused_gives}
use Rattle.measurement.specs.declared.MeasurementHeader.{MeasurementHeader}
use Rattle.plan.specs.Plan.{packets_of, Judged, judge_plan}
use Rattle.plan.specs.declared.TrafficPlan.{TrafficPlan}
use Rattle.plan.proofs.Judged.{plan_accepted}
use Rattle.plan.proofs.Claims.{same_refusal, plan_numbers}
use Rattle.observer.specs.Observer.{Observer, rows}
use Rattle.observer.specs.Judge.{well_formed, Step, step}
use Rattle.sent_plan.specs.SendingPlan.{send_in_turn, rows_needed, free_rows, record_sent_plan}
use Rattle.sent_plan.specs.PlanClaims.{Entered, AllOrNothing, PlanBeforeRoom}
use Rattle.sent_plan.proofs.SendingPlan.{none_refused, one_refused, entering_full, entering_whole, plan_malformed, plan_judged}

module _ (o : Observer) (plan : TrafficPlan) (next : ℕ) where
  -- which way the call went
  data Way : Type 0 where
    malformed : step o (refused malformed_observer) ≡ record_sent_plan o plan next → Way
    unplanned : (n : ℕ) → (judge_plan plan next).outcome ≡ refused n → step o (refused n) ≡ record_sent_plan o plan next → Way
    full : Memᴰ observer_full (send_in_turn o (packets_of plan next)).numbers → step o (refused observer_full) ≡ record_sent_plan o plan next → Way
    whole : (judge_plan plan next).outcome ≡ gives (packets_of plan next) → (send_in_turn o (packets_of plan next)).numbers ≡ replicate plan.packet_count 0
        → step o (gives (send_in_turn o (packets_of plan next)).observer) ≡ record_sent_plan o plan next → Way

  way : Way
  way = on_sheet (well_formed o) refl
    where
      on_room : well_formed o ≡ true → (judge_plan plan next).outcome ≡ gives (packets_of plan next)
          → (b : Bool) → ltb (free_rows o) (rows_needed (rows o) (packets_of plan next)) ≡ b → Way
      on_room w j true t =
          full (one_refused plan next o w (ltb-true _ _ t))
          (ap (step o) (entering_full o (packets_of plan next) (ltb-true _ _ t)) ∙ plan_judged o plan next w _ j)
      on_room w j false t =
          whole j (none_refused plan next o w (ltb-false _ _ t))
          (ap (step o) (entering_whole o (packets_of plan next) (ltb-false _ _ t)) ∙ plan_judged o plan next w _ j)

      on_plan : well_formed o ≡ true → (x : Outcome (List MeasurementHeader)) → (judge_plan plan next).outcome ≡ x → Way
      on_plan w (refused n) j = unplanned n j (plan_judged o plan next w _ j)
      on_plan w (gives packets) j =
          on_room w (ap (λ (x : Judged). x.outcome) (plan_accepted plan next packets j).1) (ltb (free_rows o) (rows_needed (rows o) (packets_of plan next))) refl

      on_sheet : (b : Bool) → well_formed o ≡ b → Way
      on_sheet false e = malformed (plan_malformed o plan next e)
      on_sheet true e = on_plan e (judge_plan plan next).outcome refl

  abbrev outcome_is : {s : Step} → s ≡ record_sent_plan o plan next → s.outcome ≡ (record_sent_plan o plan next).outcome
  outcome_is e = ap (λ (s : Step). s.outcome) e

  abbrev observer_is : {s : Step} → s ≡ record_sent_plan o plan next → (record_sent_plan o plan next).observer ≡ s.observer
  observer_is e = sym (ap (λ (s : Step). s.observer) e)

  entered : Way → (record_sent_plan o plan next).outcome ≡ gives tt → Entered o plan next
  entered (malformed e) g = absurd (refused_gives (outcome_is e ∙ g))
  entered (unplanned n j e) g = absurd (refused_gives (outcome_is e ∙ g))
  entered (full m e) g = absurd (refused_gives (outcome_is e ∙ g))
  entered (whole j zeros e) g = record { packets = j; none_refused = zeros; observer = observer_is e }

  full_only : Way → (record_sent_plan o plan next).outcome ≡ refused observer_full → Memᴰ observer_full (send_in_turn o (packets_of plan next)).numbers
  full_only (malformed e) g = let z : observer_full ≡ malformed_observer = same_refusal (outcome_is e ∙ g) in absurd (omega arith)
  full_only (unplanned n j e) g =
      let z : observer_full ≡ n = same_refusal (outcome_is e ∙ g) in
      absurd (omega (arith, plan_numbers plan next n j))
  full_only (full m e) g = m
  full_only (whole j zeros e) g = absurd (refused_gives (sym (outcome_is e ∙ g)))

  unchanged : Way → (n : ℕ) → (record_sent_plan o plan next).outcome ≡ refused n → (record_sent_plan o plan next).observer ≡ o
  unchanged (malformed e) n g = observer_is e
  unchanged (unplanned m j e) n g = observer_is e
  unchanged (full m e) n g = observer_is e
  unchanged (whole j zeros e) n g = absurd (refused_gives (sym (outcome_is e ∙ g)))

pub all_or_nothing : AllOrNothing
all_or_nothing = record {
  entered_where_room = λ o plan next packets w j h.
      ap (λ (s : Step). s.outcome) (sym (ap (step o) (entering_whole o packets h) ∙ plan_judged o plan next w (gives packets) j));
  entered_whole = λ o plan next g. entered o plan next (way o plan next) g;
  full_only_if_full = λ o plan next g. full_only o plan next (way o plan next) g;
  refused_whole = λ o plan next n g. unchanged o plan next (way o plan next) n g;
}

pub plan_before_room : PlanBeforeRoom
plan_before_room o plan next n w j = sym (plan_judged o plan next w (refused n) j)
