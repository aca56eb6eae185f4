-- What is claimed of what plans generate. proofs/Claims.antt proves each claim.
use Rattle.std.specs.Prelude.{ℕ, ◌+◌, ◌*◌, ◌<◌, ◌≤◌, ◌≡◌, List, ◌⊎◌, length, drop}
use Rattle.error.specs.Outcome.{refused, gives}
use Rattle.measurement.specs.declared.InnerIpFlow.{InnerIpFlow}
use Rattle.measurement_packet.specs.Packet.{ip_header_length}
use Rattle.plan.specs.Plan.{judge_plan}
use Rattle.plan.specs.Claims.{accepted}
use Rattle.plan.specs.declared.TrafficPlan.{TrafficPlan}
use Rattle.traffic.specs.Generate.{generate_of}

-- A success writes all packets, no more and no less.
pub record Complete (flow : InnerIpFlow) (plan : TrafficPlan) (next : ℕ) (buffer : List ℕ) (n : ℕ) : Type 0 where
  pub judged : judge_plan plan next ≡ accepted plan next
  pub bytes : n ≡ plan.packet_count * (ip_header_length flow.version + 32)
  pub next_is : (generate_of flow plan next buffer).next ≡ next + plan.packet_count
  pub behind : drop n (generate_of flow plan next buffer).buffer ≡ drop n buffer
  pub same_length : length (generate_of flow plan next buffer).buffer ≡ length buffer

abbrev pub SuccessIsComplete : Type 0
SuccessIsComplete = (flow : InnerIpFlow) (plan : TrafficPlan) (next : ℕ) (buffer : List ℕ) (n : ℕ)
    → (generate_of flow plan next buffer).outcome ≡ gives n → Complete flow plan next buffer n

-- An accepted plan fails only for want of room, and then with 15.
abbrev pub RoomDecides : Type 0
RoomDecides =
    (flow : InnerIpFlow) (plan : TrafficPlan) (next : ℕ) (buffer : List ℕ) → judge_plan plan next ≡ accepted plan next
    → (let bytes : ℕ = plan.packet_count * (ip_header_length flow.version + 32) in
    (length buffer < bytes → (generate_of flow plan next buffer).outcome ≡ refused 15)
    × (bytes ≤ length buffer → (generate_of flow plan next buffer).outcome ≡ gives bytes))

-- "A refusal returns its number and nothing else": no byte of the buffer changes; and the next sequence changes only
-- with 19 and 20.
abbrev pub RefusalLeaves : Type 0
RefusalLeaves =
    (flow : InnerIpFlow) (plan : TrafficPlan) (next : ℕ) (buffer : List ℕ) (n : ℕ)
    → (generate_of flow plan next buffer).outcome ≡ refused n
    → ((generate_of flow plan next buffer).buffer ≡ buffer)
    × ((n ≡ 19) ⊎ (n ≡ 20) ⊎ ((generate_of flow plan next buffer).next ≡ next))
