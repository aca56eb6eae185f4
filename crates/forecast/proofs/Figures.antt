-- The figures of a plan's packets: how many they are, and the last of them.
use Prim.Native.Nat.{ℕ, zero, suc, ◌+◌, ◌-◌, ◌*◌, ◌<◌}
use native.Mathlib.Omega.{arith}
use native.Mathlib.Nat.{zero-mul}
use mathlib.Core.Path.{◌≡◌, refl, sym, ap, ap₂, ◌∙◌}
use mathlib.Core.Option.{Option, some, none}
use lib.ListN.{length}
use Rattle.error.specs.Outcome.{refused, gives}
use Rattle.measurement.specs.declared.IpVersion.{IpVersion}
use Rattle.measurement.specs.declared.MeasurementHeader.{MeasurementHeader}
use Rattle.measurement_packet.specs.Packet.{ip_header_length}
use Rattle.plan.specs.Plan.{packet_at, packets_from, packets_of, Judged, judge_plan}
use Rattle.plan.specs.Claims.{accepted}
use Rattle.plan.specs.declared.TrafficPlan.{TrafficPlan}
use Rattle.forecast.specs.Forecast.{last_of, figures_of, figures_judged, forecast_of}

module _ (plan : TrafficPlan) (next : ℕ) where
  packets_count : (n k : ℕ) → length (packets_from plan next n k) ≡ n
  unfolding packets_from
  packets_count zero k = refl
  packets_count (suc n) k = ap suc (packets_count n (suc k))

  last_from : (n k m : ℕ) → m ≡ k + n → last_of (packets_from plan next (suc n) k) ≡ some (packet_at plan next m)
  unfolding packets_from last_of
  last_from zero k m e = let same : k ≡ m = omega arith in ap (λ (x : ℕ). some (packet_at plan next x)) same
  last_from (suc n) k m e = last_from n (suc k) m (omega arith)

  pub none_last : plan.packet_count ≡ 0 → last_of (packets_of plan next) ≡ none
  unfolding packets_of packets_from last_of
  none_last e = ap (λ (n : ℕ). last_of (packets_from plan next n 0)) e

  pub some_last : 0 < plan.packet_count → last_of (packets_of plan next) ≡ some (packet_at plan next (plan.packet_count - 1))
  unfolding packets_of
  some_last h =
      let count : ℕ = plan.packet_count in
      let e : count ≡ suc (count - 1) = omega arith in
      ap (λ (n : ℕ). last_of (packets_from plan next n 0)) e ∙ last_from (count - 1) 0 (count - 1) (omega arith)

  module _ (version : IpVersion) where
    pub forecast_refused : (n : ℕ) → (judge_plan plan next).outcome ≡ refused n → refused n ≡ forecast_of version plan next
    unfolding forecast_of
    forecast_refused n e = ap (figures_judged version) (sym e)

    pub forecast_accepted : (last : Option MeasurementHeader) → last_of (packets_of plan next) ≡ last → judge_plan plan next ≡ accepted plan next
        → gives (record { bytes = plan.packet_count * (ip_header_length version + 32); last = last }) ≡ forecast_of version plan next
    unfolding forecast_of figures_of packets_of
    forecast_accepted last l e =
        let n : plan.packet_count ≡ length (packets_of plan next) = sym (packets_count plan.packet_count 0) in
        ap₂ (λ (n : ℕ) (x : Option MeasurementHeader). gives (record { bytes = n * (ip_header_length version + 32); last = x })) n (sym l)
        ∙ ap (λ (j : Judged). figures_judged version j.outcome) (sym e)

    pub forecast_empty : plan.packet_count ≡ 0 → judge_plan plan next ≡ accepted plan next
        → gives (record { bytes = 0; last = none }) ≡ forecast_of version plan next
    forecast_empty z e =
        let n : 0 ≡ plan.packet_count * (ip_header_length version + 32) = sym (ap (λ (x : ℕ). x * (ip_header_length version + 32)) z ∙ zero-mul (ip_header_length version + 32)) in
        ap (λ (x : ℕ). gives (record { bytes = x; last = none })) n ∙ forecast_accepted none (none_last z) e
