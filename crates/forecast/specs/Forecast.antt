-- How big a plan will be, worked out "from flow kind, plan and next sequence without building a packet" (document 02,
-- job 12).
use Rattle.std.specs.Prelude.{ℕ, ◌+◌, ◌*◌, List, [], ◌∷◌, length}
use Rattle.std.proofs.Math.Option.{Option, some, none}
use Rattle.error.specs.Outcome.{Outcome, refused, gives}
use Rattle.measurement.specs.declared.IpVersion.{IpVersion}
use Rattle.measurement.specs.declared.MeasurementHeader.{MeasurementHeader}
use Rattle.measurement_packet.specs.Packet.{ip_header_length}
use Rattle.plan.specs.Plan.{judge_plan}
use Rattle.plan.specs.declared.TrafficPlan.{TrafficPlan}

-- "the bytes, the last sequence and the last send time": what the last packet carries, if there is a packet.
pub record Figures : Type 0 where
  pub bytes : ℕ
  pub last : Option MeasurementHeader

-- The last element of a list.
unfoldable pub last_of : {A : Type 0} → List A → Option A
last_of [] = none
last_of (x ∷ []) = some x
last_of (x ∷ y ∷ l) = last_of (y ∷ l)

-- The figures of packets. Each has an IP header, 8 bytes of UDP header and 24 of the probe. "count 0 gives 0 bytes and
-- no last packet."
unfoldable pub figures_of : IpVersion → List MeasurementHeader → Figures
figures_of version packets =
    record { bytes = length packets * (ip_header_length version + 32); last = last_of packets }

-- A plan's figures, from how it is judged.
abbrev pub figures_judged : IpVersion → Outcome (List MeasurementHeader) → Outcome Figures
figures_judged version (refused n) = refused n
figures_judged version (gives packets) = gives (figures_of version packets)

-- "It refuses with 16 to 20 in the generator's order": the plan is judged as for the generator. It "changes nothing":
-- the next sequence that the judgement has is no part of the outcome.
unfoldable pub forecast_of : IpVersion → TrafficPlan → ℕ → Outcome Figures
forecast_of version plan next = figures_judged version (judge_plan plan next).outcome
