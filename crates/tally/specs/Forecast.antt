-- The forecast is the generator's: "Its figures and refusals are proved to be the generator's, given a buffer of that
-- size" (document 02, job 12).
use Rattle.std.specs.Prelude.{ℕ, ◌+◌, ◌-◌, ◌≤◌, ◌≡◌, List, true, false, ltb, length, drop}
use Rattle.std.proofs.Math.Option.{Option, some, none}
use Rattle.error.specs.Number.{output_too_short}
use Rattle.error.specs.Outcome.{Outcome, refused, gives}
use Rattle.measurement.specs.Flow.{InRange}
use Rattle.measurement.specs.declared.InnerIpFlow.{InnerIpFlow}
use Rattle.measurement.specs.declared.MeasurementHeader.{MeasurementHeader}
use Rattle.measurement_packet.specs.Packet.{ip_header_length}
use Rattle.measurement_reading.specs.Read.{read_of}
use Rattle.measurement_damage.specs.Claims.{tpdu_built}
use Rattle.plan.specs.declared.TrafficPlan.{TrafficPlan}
use Rattle.traffic.specs.Generate.{generate_of}
use Rattle.forecast.specs.Forecast.{Figures, forecast_of}

-- What a forecast says of the generator with a buffer of this length: the same refusal; or 15 where the buffer is
-- shorter than the bytes, and else the bytes.
abbrev pub answer_in : ℕ → Outcome Figures → Outcome ℕ
answer_in room (refused n) = refused n
answer_in room (gives figures) =
    elim (ltb room figures.bytes) [ true ↦ refused output_too_short | false ↦ gives figures.bytes ]

-- The bytes of a forecast.
abbrev pub bytes_of : Outcome Figures → Outcome ℕ
bytes_of (refused n) = refused n
bytes_of (gives figures) = gives figures.bytes

-- The sequence behind the last packet's; the next one itself, where there is no packet.
abbrev pub behind_last : ℕ → Option MeasurementHeader → ℕ
behind_last next none = next
behind_last next (some last) = last.sequence + 1

pub record SameAsGenerator (flow : InnerIpFlow) (plan : TrafficPlan) (next : ℕ) : Type 0 where
  -- One way: with every buffer the generator answers what the forecast says.
  pub answers : (buffer : List ℕ)
      → (generate_of flow plan next buffer).outcome ≡ answer_in (length buffer) (forecast_of flow.version plan next)
  -- The other way: the generator's answer with any one buffer is what the forecast says; 15 aside, which says nothing
  -- of the plan.
  pub refuses_if : (n : ℕ) (buffer : List ℕ) → (generate_of flow plan next buffer).outcome ≡ refused n → (n ≡ 15 → ⊥)
      → forecast_of flow.version plan next ≡ refused n
  pub gives_if : (bytes : ℕ) (buffer : List ℕ) → (generate_of flow plan next buffer).outcome ≡ gives bytes
      → bytes_of (forecast_of flow.version plan next) ≡ gives bytes
  -- With every buffer that has room the next sequence is then one above the last, and unmoved where there is no packet.
  pub next_sequence : (figures : Figures) → forecast_of flow.version plan next ≡ gives figures
      → (buffer : List ℕ) → figures.bytes ≤ length buffer
      → (generate_of flow plan next buffer).next ≡ behind_last next figures.last
  -- In the last packet's place, at the end of the bytes, stands a packet that reads back to the last sequence and time.
  pub last_packet : (figures : Figures) → forecast_of flow.version plan next ≡ gives figures
      → (last : MeasurementHeader) → figures.last ≡ some last
      → InRange flow next plan.first_send_timestamp_ns
      → (buffer : List ℕ) → figures.bytes ≤ length buffer
      → (let place : ℕ = figures.bytes - (ip_header_length flow.version + 32) in
      read_of (drop place (generate_of flow plan next buffer).buffer)
      ≡ gives (tpdu_built flow last.sequence last.send_timestamp_ns))

abbrev pub ForecastIsTheGenerators : Type 0
ForecastIsTheGenerators = (flow : InnerIpFlow) (plan : TrafficPlan) (next : ℕ) → SameAsGenerator flow plan next
