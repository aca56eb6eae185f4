-- For the contract of a private function: room for all packets of an accepted plan.
use Rattle.std.specs.Prelude.{ℕ, ◌+◌, ◌*◌, ◌≤◌, List, length}
use Rattle.measurement.specs.declared.InnerIpFlow.{InnerIpFlow}
use Rattle.measurement_packet.specs.Packet.{ip_header_length}
use Rattle.plan.specs.Judge.{Planned}
use Rattle.plan.specs.declared.TrafficPlan.{TrafficPlan}

-- An accepted plan, and a buffer for all of its packets.
pub record Fits (flow : InnerIpFlow) (plan : TrafficPlan) (i next : ℕ) (buffer : List ℕ) : Type 0 where
  pub planned : Planned plan i next
  pub room : plan.packet_count * (ip_header_length flow.version + 32) ≤ length buffer
