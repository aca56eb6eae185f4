-- What a plan generates reads back: the generator's definition and the reader's, together.
use Rattle.std.specs.Prelude.{ℕ, ◌+◌, ◌*◌, ◌<◌, ◌≡◌, List, drop}
use Rattle.error.specs.Outcome.{gives}
use Rattle.measurement.specs.Flow.{InRange}
use Rattle.measurement.specs.declared.InnerIpFlow.{InnerIpFlow}
use Rattle.measurement_packet.specs.Packet.{ip_header_length}
use Rattle.measurement_reading.specs.Read.{read_of}
use Rattle.measurement_damage.specs.Claims.{tpdu_built}
use Rattle.plan.specs.Plan.{time_at}
use Rattle.plan.specs.declared.TrafficPlan.{TrafficPlan}
use Rattle.traffic.specs.Generate.{generate_of}

-- Every packet stands at its place in the buffer, and reads back to the flow, its sequence and its time.
abbrev pub PacketsReadBack : Type 0
PacketsReadBack = (flow : InnerIpFlow) (plan : TrafficPlan) (next : ℕ) (buffer : List ℕ)
    → InRange flow next plan.first_send_timestamp_ns
    → (n : ℕ) → (generate_of flow plan next buffer).outcome ≡ gives n
    → (k : ℕ) → k < plan.packet_count
    → (let place : ℕ = k * (ip_header_length flow.version + 32) in
    read_of (drop place (generate_of flow plan next buffer).buffer)
    ≡ gives (tpdu_built flow (next + k) (time_at plan k)))
