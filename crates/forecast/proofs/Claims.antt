-- The claims of specs/Claims.antt, proved.
use Prim.Native.Nat.{ℕ, ◌+◌, ◌-◌, ◌*◌, ◌≤◌}
use native.Mathlib.Omega.{arith}
use mathlib.Core.Path.{◌≡◌, refl, sym, ap, ◌∙◌}
use mathlib.Core.List.{List}
use mathlib.Core.Option.{some}
use Rattle.error.specs.Outcome.{Outcome, refused, gives}
use Rattle.error.proofs.Causes.{refused_gives}
use Rattle.measurement.specs.declared.IpVersion.TheVariants.{V6}
use Rattle.measurement.specs.declared.MeasurementHeader.{MeasurementHeader}
use Rattle.measurement_packet.specs.Packet.{ip_header_length}
use Rattle.plan.specs.Plan.{rate_causes, time_at, packets_from, packets_of, leaving, causes_at, causes_from, first_plan_cause, judge_packets, plan_causes, judge_plan}
use Rattle.plan.specs.Claims.{Acceptable, plan_of}
use Rattle.plan.proofs.Judged.{plan_accepted}
use Rattle.plan.proofs.Claims.{accepted_if_acceptable, given, same_refusal, plan_numbers}
use Rattle.traffic.proofs.Answers.{all_within}
use Rattle.forecast.specs.Forecast.{Figures, last_of, figures_of, forecast_of}
use Rattle.forecast.specs.Claims.{LastOfPackets, NoPackets, EnoughForEvery, ForecastNumbers, Examples}
use Rattle.forecast.proofs.Figures.{some_last, forecast_refused, forecast_accepted, forecast_empty}

pub last_of_packets : LastOfPackets
last_of_packets version plan next a h =
    let count : ℕ = plan.packet_count in
    let e : next + (count - 1) ≡ next + count - 1 = omega arith in
    sym (forecast_accepted plan next version _ (some_last plan next h) (accepted_if_acceptable plan next a))
    ∙ ap (λ (s : ℕ). gives (record { bytes = count * (ip_header_length version + 32); last = some (record { sequence = s; send_timestamp_ns = time_at plan (count - 1) }) })) e

pub no_packets : NoPackets
no_packets version plan next z p l =
    let a : Acceptable plan next = record {
      rate_positive = p;
      rate_within = l;
      count_within = omega arith;
      sequences = λ k h. absurd (omega arith);
      times = λ k h. absurd (omega arith);
    } in
    sym (forecast_empty plan next version z (accepted_if_acceptable plan next a))

pub enough_for_every : EnoughForEvery
enough_for_every version plan next figures e = judged_as (judge_plan plan next).outcome refl
  where
    judged_as : (o : Outcome (List MeasurementHeader)) → (judge_plan plan next).outcome ≡ o → figures.bytes ≤ 147456
    judged_as (refused m) q = absurd (refused_gives (forecast_refused plan next version m q ∙ e))
    judged_as (gives packets) q =
        let a = plan_accepted plan next packets q in
        let same = given (forecast_accepted plan next version _ refl a.1 ∙ e) in
        omega (arith, ap (λ (f : Figures). f.bytes) same, all_within version 2048 plan.packet_count (ip_header_length version + 32) a.0.count_within refl)

pub forecast_numbers_lem : ForecastNumbers
forecast_numbers_lem version plan next n e = judged_as (judge_plan plan next).outcome refl
  where
    judged_as : (o : Outcome (List MeasurementHeader)) → (judge_plan plan next).outcome ≡ o → (16 ≤ n) × (n ≤ 20)
    judged_as (refused m) q =
        let same : n ≡ m = same_refusal (forecast_refused plan next version m q ∙ e) in
        rw same (plan_numbers plan next m q)
    judged_as (gives packets) q =
        absurd (refused_gives (sym (forecast_accepted plan next version _ refl (plan_accepted plan next packets q).1 ∙ e)))

pub examples : Examples
unfolding forecast_of figures_of last_of ip_header_length judge_plan judge_packets plan_causes rate_causes leaving first_plan_cause causes_from causes_at packets_of packets_from
examples = record {
  largest = last_of_packets V6 (plan_of 2048 1000000000 0) 0 (record {
    rate_positive = omega arith;
    rate_within = omega arith;
    count_within = omega arith;
    sequences = λ k h. omega arith;
    times = λ k h. omega arith;
  }) (omega arith);
  highest = refl;
  too_many = refl;
  tie = refl;
  time_first = refl;
  none_at_top = refl;
  none_at_no_rate = refl;
}
