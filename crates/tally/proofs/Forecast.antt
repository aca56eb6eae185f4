-- The forecast and the generator rest on one judgement: where it refuses, both refuse; where it accepts, the generator writes every packet.
use Prim.Native.Nat.{ℕ, zero, suc, ◌+◌, ◌-◌, ◌*◌, ◌≤◌}
use native.Mathlib.Omega.{arith}
use native.Mathlib.Nat.{suc-mul}
use mathlib.Core.Path.{◌≡◌, refl, sym, ap, ◌∙◌}
use mathlib.Core.List.{List}
use mathlib.Core.Bool.{Bool, true, false}
use mathlib.Core.Option.{some, some-injective, none-ne-some}
use lib.Dec.{ltb}
use lib.ListN.{length, drop}
use borrow.Author.Tests.{ltb-true, ltb-false}
use Rattle.error.specs.Outcome.{Outcome, refused, gives}
use Rattle.error.proofs.Causes.{refused_gives}
use Rattle.measurement.specs.Flow.{InRange}
use Rattle.measurement.specs.declared.InnerIpFlow.{InnerIpFlow}
use Rattle.measurement.specs.declared.MeasurementHeader.{MeasurementHeader}
use Rattle.measurement_reading.specs.Read.{read_of}
use Rattle.measurement_damage.specs.Claims.{tpdu_built}
use Rattle.plan.specs.Plan.{packet_at, packets_of, judge_plan}
use Rattle.plan.specs.Claims.{accepted}
use Rattle.plan.specs.declared.TrafficPlan.{TrafficPlan}
use Rattle.plan.proofs.Judged.{plan_accepted}
use Rattle.plan.proofs.Claims.{given, same_refusal}
use Rattle.traffic.specs.Generate.{Generating, generate_of}
use Rattle.traffic.proofs.Packets.{size}
use Rattle.traffic.proofs.Answers.{generate_refused}
use Rattle.traffic.proofs.Claims.{success_is_complete, room_decides}
use Rattle.forecast.specs.Forecast.{Figures, last_of, forecast_of}
use Rattle.forecast.proofs.Figures.{none_last, some_last, forecast_refused, forecast_accepted}
use Rattle.tally.specs.Forecast.{answer_in, bytes_of, behind_last, SameAsGenerator, ForecastIsTheGenerators}
use Rattle.tally.proofs.Generated.{packets_read_back}

module _ (flow : InnerIpFlow) (plan : TrafficPlan) (next : ℕ) where
  abbrev count : ℕ
  count = plan.packet_count

  abbrev forecast : Outcome Figures
  forecast = forecast_of flow.version plan next

  -- a refused plan
  refused_same : (m : ℕ) → (judge_plan plan next).outcome ≡ refused m → SameAsGenerator flow plan next
  refused_same m q =
      let f = forecast_refused plan next flow.version m q in
      let generator_refuses : (buffer : List ℕ) → refused m ≡ (generate_of flow plan next buffer).outcome =
      λ buffer. ap (λ (g : Generating). g.outcome) (generate_refused flow plan next buffer m q) in
      record {
        answers = λ buffer. sym (generator_refuses buffer) ∙ ap (answer_in (length buffer)) f;
        refuses_if = λ n buffer e other. sym f ∙ ap refused (sym (same_refusal (generator_refuses buffer ∙ e)));
        gives_if = λ bytes buffer e. absurd (refused_gives (generator_refuses buffer ∙ e));
        next_sequence = λ figures e. absurd (refused_gives (f ∙ e));
        last_packet = λ figures e. absurd (refused_gives (f ∙ e));
      }

  -- an accepted plan
  module _ (j : judge_plan plan next ≡ accepted plan next) where
    abbrev whole : Figures
    whole = record { bytes = count * size flow; last = last_of (packets_of plan next) }

    forecast_is : gives whole ≡ forecast
    forecast_is = forecast_accepted plan next flow.version _ refl j

    gives_whole : (buffer : List ℕ) → whole.bytes ≤ length buffer → (generate_of flow plan next buffer).outcome ≡ gives whole.bytes
    gives_whole buffer h = (room_decides flow plan next buffer j).1 h

    answers_whole : (buffer : List ℕ) (b : Bool) → ltb (length buffer) whole.bytes ≡ b
        → (generate_of flow plan next buffer).outcome ≡ elim b [ true ↦ refused 15 | false ↦ gives whole.bytes ]
    answers_whole buffer true t = (room_decides flow plan next buffer j).0 (ltb-true (length buffer) whole.bytes t)
    answers_whole buffer false t = gives_whole buffer (ltb-false (length buffer) whole.bytes t)

    -- it refuses only by 15
    refuses_by_15 : (n : ℕ) (buffer : List ℕ) → (generate_of flow plan next buffer).outcome ≡ refused n → (b : Bool) → ltb (length buffer) whole.bytes ≡ b → n ≡ 15
    refuses_by_15 n buffer e true t = same_refusal (sym (answers_whole buffer true t) ∙ e)
    refuses_by_15 n buffer e false t = absurd (refused_gives (sym e ∙ answers_whole buffer false t))

    behind : (n : ℕ) → count ≡ n → next + count ≡ behind_last next (last_of (packets_of plan next))
    behind zero e =
        let s : next + count ≡ next = omega arith in
        s ∙ ap (behind_last next) (sym (none_last plan next e))
    behind (suc n) e =
        let s : next + count ≡ next + (count - 1) + 1 = omega arith in
        s ∙ ap (behind_last next) (sym (some_last plan next (omega arith)))

    last_reads : (n : ℕ) → count ≡ n → (last : MeasurementHeader) → last_of (packets_of plan next) ≡ some last
        → InRange flow next plan.first_send_timestamp_ns → (buffer : List ℕ) → whole.bytes ≤ length buffer
        → read_of (drop (whole.bytes - size flow) (generate_of flow plan next buffer).buffer) ≡ gives (tpdu_built flow last.sequence last.send_timestamp_ns)
    last_reads zero e last l range buffer h = absurd (none-ne-some last (sym (none_last plan next e) ∙ l))
    last_reads (suc n) e last l range buffer h =
        let same : packet_at plan next (count - 1) ≡ last = some-injective _ _ (sym (some_last plan next (omega arith)) ∙ l) in
        let k : count - 1 ≡ n = omega arith in
        let place : whole.bytes - size flow ≡ (count - 1) * size flow =
        omega (arith, suc-mul n (size flow), ap (λ (x : ℕ). x * size flow) e, ap (λ (x : ℕ). x * size flow) k) in
        ap (λ (x : ℕ). read_of (drop x (generate_of flow plan next buffer).buffer)) place
        ∙ packets_read_back flow plan next buffer range whole.bytes (gives_whole buffer h) (count - 1) (omega arith)
        ∙ ap (λ (p : MeasurementHeader). gives (tpdu_built flow p.sequence p.send_timestamp_ns)) same

    accepted_same : SameAsGenerator flow plan next
    accepted_same = record {
      answers = λ buffer. answers_whole buffer (ltb (length buffer) whole.bytes) refl ∙ ap (answer_in (length buffer)) forecast_is;
      refuses_if = λ n buffer e other. absurd (other (refuses_by_15 n buffer e (ltb (length buffer) whole.bytes) refl));
      gives_if = λ bytes buffer e. ap bytes_of (sym forecast_is) ∙ ap gives (sym (success_is_complete flow plan next buffer bytes e).bytes);
      next_sequence = λ figures e.
          let same : whole ≡ figures = given (forecast_is ∙ e) in
          rw (sym same) (λ buffer h. (success_is_complete flow plan next buffer whole.bytes (gives_whole buffer h)).next_is ∙ behind count refl);
      last_packet = λ figures e.
          let same : whole ≡ figures = given (forecast_is ∙ e) in
          rw (sym same) (λ last l range buffer h. last_reads count refl last l range buffer h);
    }

pub forecast_is_the_generators : ForecastIsTheGenerators
forecast_is_the_generators flow plan next = judged_as (judge_plan plan next).outcome refl
  where
    judged_as : (o : Outcome (List MeasurementHeader)) → (judge_plan plan next).outcome ≡ o → SameAsGenerator flow plan next
    judged_as (refused m) q = refused_same flow plan next m q
    judged_as (gives packets) q = accepted_same flow plan next (plan_accepted plan next packets q).1
