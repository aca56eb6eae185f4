-- What is claimed of the forecast by itself. proofs/Claims.antt proves each claim. That the forecast is the generator's
-- is claimed in the crate tally.
use Rattle.std.specs.Prelude.{ℕ, ◌+◌, ◌-◌, ◌*◌, ◌<◌, ◌≤◌, ◌≡◌}
use Rattle.std.proofs.Math.Option.{some, none}
use Rattle.error.specs.Outcome.{refused, gives}
use Rattle.measurement.specs.declared.IpVersion.{IpVersion}
use Rattle.measurement.specs.declared.IpVersion.TheVariants.{V4, V6}
use Rattle.measurement_packet.specs.Packet.{ip_header_length}
use Rattle.plan.specs.Plan.{top, time_at}
use Rattle.plan.specs.Claims.{Acceptable, plan_of}
use Rattle.plan.specs.declared.TrafficPlan.{TrafficPlan}
use Rattle.forecast.specs.Forecast.{Figures, forecast_of}

-- An acceptable plan in numbers: count packets of 52 bytes (IPv4) or 72 (IPv6), of which the last has the next sequence
-- + count − 1 and the first time + (count − 1) × interval.
abbrev pub LastOfPackets : Type 0
LastOfPackets = (version : IpVersion) (plan : TrafficPlan) (next : ℕ) → Acceptable plan next
    → 0 < plan.packet_count
    → (let count : ℕ = plan.packet_count in
    forecast_of version plan next ≡ gives (record {
      bytes = count * (ip_header_length version + 32);
      last = some (record { sequence = next + count - 1; send_timestamp_ns = time_at plan (count - 1) });
    }))

-- "count 0 gives 0 bytes and no last packet", whatever the next sequence and the first time are.
abbrev pub NoPackets : Type 0
NoPackets = (version : IpVersion) (plan : TrafficPlan) (next : ℕ) → plan.packet_count ≡ 0
    → 0 < plan.target_rate_pps → plan.target_rate_pps ≤ 1000000000
    → forecast_of version plan next ≡ gives (record { bytes = 0; last = none })

-- "for buffer sizes too": 147,456 bytes, which 2,048 packets of IPv6 have, are enough for every plan.
abbrev pub EnoughForEvery : Type 0
EnoughForEvery = (version : IpVersion) (plan : TrafficPlan) (next : ℕ) (figures : Figures)
    → forecast_of version plan next ≡ gives figures → figures.bytes ≤ 147456

-- "It refuses with 16 to 20", and by no other number.
abbrev pub ForecastNumbers : Type 0
ForecastNumbers = (version : IpVersion) (plan : TrafficPlan) (next n : ℕ)
    → forecast_of version plan next ≡ refused n → (16 ≤ n) × (n ≤ 20)

-- 2,048 packets of IPv6; a plan that ends one below the top sequence and at the top time; 18 before 19; 19 where 20 is
-- due at the same packet; 20 where it alone is due; count 0 at the top sequence, which has 0 bytes; and count 0 at rate
-- 0, which is still refused by 16.
pub record Examples : Type 0 where
  pub largest : forecast_of V6 (plan_of 2048 1000000000 0) 0
      ≡ gives (record { bytes = 147456; last = some (record { sequence = 2047; send_timestamp_ns = 2047 }) })
  pub highest : forecast_of V4 (plan_of 2 1 18446744072709551615) 18446744073709551613
      ≡ gives (record {
        bytes = 104;
        last = some (record { sequence = 18446744073709551614; send_timestamp_ns = top });
      })
  pub too_many : forecast_of V4 (plan_of 2049 1 0) top ≡ refused 18
  pub tie : forecast_of V4 (plan_of 2 1 18446744072709551616) 18446744073709551614 ≡ refused 19
  pub time_first : forecast_of V4 (plan_of 2 1 18446744072709551616) 7 ≡ refused 20
  pub none_at_top : forecast_of V4 (plan_of 0 1 0) top ≡ gives (record { bytes = 0; last = none })
  pub none_at_no_rate : forecast_of V4 (plan_of 0 0 0) top ≡ refused 16
