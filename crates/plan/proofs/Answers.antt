-- What the code's answer to a judgement says of it.
use Prim.Native.Nat.{ℕ, zero, suc, ◌+◌, ◌*◌, ◌<◌, ◌≤◌}
use native.Mathlib.Omega.{arith}
use mathlib.Core.Path.{◌≡◌, refl, sym, ap, ◌∙◌}
use mathlib.Core.List.{List}
use Rattle.error.specs.Outcome.{Outcome, refused, gives}
use Rattle.error.proofs.Causes.{refused_gives}
use Rattle.measurement.specs.declared.MeasurementHeader.{MeasurementHeader}
use Rattle.plan.specs.Plan.{top, interval, time_at, judge_plan}
use Rattle.plan.specs.Judge.{interval_judged, Judges, Planned}
use Rattle.plan.specs.Claims.{Acceptable, accepted}
use Rattle.std.specs.Prelude as code
use Rattle.error.specs.Answer.{answered, number_of}
use Rattle.error.specs.declared.Refusal.{Refusal}
use Rattle.plan.specs.declared.JudgedPlan.{JudgedPlan}
use Rattle.plan.specs.declared.TrafficPlan.{TrafficPlan}
use Rattle.plan.proofs.Judged.{plan_accepted}

-- the sequence behind the last
behind_last_lem : (n next : ℕ) → next ≤ top → ((k : ℕ) → k < n → next + k < top) → next + n ≤ top
behind_last_lem zero next low all = omega arith
behind_last_lem (suc n) next low all = omega (arith, all n (omega arith))

module _ (plan : TrafficPlan) (next : ℕ) (r : JudgedPlan) (e : Judges plan r (judge_plan plan next)) where
  pub next_is : r.next_sequence ≡ (judge_plan plan next).next
  next_is = e.next

  pub answer_refused : (why : Refusal) → r.interval ≡ code.Err why → (judge_plan plan next).outcome ≡ refused (number_of why)
  answer_refused why a = go (judge_plan plan next).outcome refl (sym (ap answered a) ∙ e.outcome)
    where
      go : (o : Outcome (List MeasurementHeader)) → (judge_plan plan next).outcome ≡ o → refused (number_of why) ≡ interval_judged plan (judge_plan plan next).outcome
          → (judge_plan plan next).outcome ≡ refused (number_of why)
      go (refused m) q f =
          let g : ◌≡◌ {A = Outcome ℕ} (refused (number_of why)) (refused m) = f ∙ ap (interval_judged plan) q in
          let same : m ≡ number_of why = cc in
          q ∙ ap refused same
      go (gives p) q f = absurd (refused_gives (f ∙ ap (interval_judged plan) q))

  pub answer_accepted : (i : ℕ) → r.interval ≡ code.Ok i
      → (i ≡ interval plan.target_rate_pps) × Acceptable plan next × (judge_plan plan next ≡ accepted plan next)
  answer_accepted i a = go (judge_plan plan next).outcome refl (sym (ap answered a) ∙ e.outcome)
    where
      go : (o : Outcome (List MeasurementHeader)) → (judge_plan plan next).outcome ≡ o → gives i ≡ interval_judged plan (judge_plan plan next).outcome
          → (i ≡ interval plan.target_rate_pps) × Acceptable plan next × (judge_plan plan next ≡ accepted plan next)
      go (refused m) q f = absurd (refused_gives (sym (f ∙ ap (interval_judged plan) q)))
      go (gives p) q f =
          let g : gives i ≡ gives (interval plan.target_rate_pps) = f ∙ ap (interval_judged plan) q in
          let same : i ≡ interval plan.target_rate_pps = cc in
          let h = plan_accepted plan next p q in
          (same, h.0, h.1)

  pub answer_planned : (i : ℕ) → r.interval ≡ code.Ok i → next ≤ top → Planned plan i next
  answer_planned i a low =
      let t = answer_accepted i a in
      record {
        is = t.0;
        count = t.1.count_within;
        sequences = behind_last_lem plan.packet_count next low t.1.sequences;
        times = t.1.times;
      }

-- the time of packet k
pub planned_time : {plan : TrafficPlan} {i next : ℕ} → Planned plan i next → (k : ℕ) → plan.first_send_timestamp_ns + k * i ≡ time_at plan k
planned_time {plan} p k = ap (λ (x : ℕ). plan.first_send_timestamp_ns + k * x) p.is

pub planned_fits : {plan : TrafficPlan} {i next : ℕ} → Planned plan i next → (k : ℕ) → k < plan.packet_count
    → plan.first_send_timestamp_ns + k * i ≤ top
planned_fits p k h = rw (planned_time p k) (p.times k h)
