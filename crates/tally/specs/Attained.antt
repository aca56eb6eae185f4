-- What keeps the hypotheses of demand 3 from being empty. proofs/Attained.antt proves it.
use Rattle.std.specs.Prelude.{ℕ, ◌+◌, ◌*◌, ◌≤◌, ◌<◌, ◌≡◌, List, [], ◌∷◌, map, Bool, true, false, take, drop}
use Rattle.error.specs.Outcome.{gives}
use Rattle.field.specs.Field.{field}
use Rattle.measurement.specs.Flow.{InRange}
use Rattle.measurement.specs.declared.InnerIpFlow.{InnerIpFlow}
use Rattle.measurement_packet.specs.Packet.{ip_header_length}
use Rattle.measurement_damage.specs.Claims.{Travelled, arrives, echoes, echoes_of}
use Rattle.plan.specs.Plan.{packets_of}
use Rattle.traffic.specs.Generate.{generate_of}
use Rattle.plan.specs.Claims.{Acceptable}
use Rattle.plan.specs.declared.TrafficPlan.{TrafficPlan}
use Rattle.observer.specs.Counts.{fresh}
use Rattle.observer.specs.Observer.{Observer, capacity, rows}
use Rattle.tally.specs.Tally.{each_column}
use Rattle.observer.specs.Answer.{observer_of}
use Rattle.tally.specs.Tally.{row_for}
use Rattle.tally.specs.Cases.{ipv4_flow, ipv6_flow}
use Rattle.tally.specs.Demand.{Accepted, packet, send_all, Takes, Call, tpdu_call, message_call, Return, handed}
use Rattle.tally.specs.Demand.{receive, damaged_on_a_leg, damaged_at_the_end}

-- A plan that breaks no rule of leaf 5 is accepted, for every flow.
abbrev pub PlansAccepted : Type 0
PlansAccepted =
    (flow : InnerIpFlow) (plan : TrafficPlan) (next : ℕ)
    → InRange flow next plan.first_send_timestamp_ns → Acceptable plan next
    → Accepted flow plan next

-- What is sent is what the generator wrote: packet k at its place in the buffer, "packets lie end to end".
abbrev pub PacketsGenerated : Type 0
PacketsGenerated =
    (flow : InnerIpFlow) (plan : TrafficPlan) (next : ℕ) (accepted : Accepted flow plan next)
    → (k : ℕ) → k < plan.packet_count
    → (let size : ℕ = ip_header_length flow.version + 32 in
    take size (drop (k * size) (generate_of flow plan next accepted.buffer).buffer) ≡ packet flow plan next k)

-- A fresh observer takes a plan if and only if it has room, whatever its columns hold; and then its rows are the
-- plan's, in plan order.
pub record Room (plan : TrafficPlan) (next : ℕ) (o : Observer) : Type 0 where
  pub takes : plan.packet_count ≤ capacity o → Takes plan next o
  pub needs : Takes plan next o → plan.packet_count ≤ capacity o
  pub plan_order : Takes plan next o → rows (send_all o (packets_of plan next)) ≡ map row_for (packets_of plan next)

abbrev pub RoomTakes : Type 0
RoomTakes = (plan : TrafficPlan) (next : ℕ) (o : Observer) → o.counts ≡ fresh → Room plan next o

-- Every packet of an accepted plan may come back undamaged after any number of echoes, at any time and by either call:
-- no such echo refuses.
pub record Undamaged (flow : InnerIpFlow) (plan : TrafficPlan) (next k n time : ℕ) (call : Call) : Type 0 where
  pub return : Return flow plan next
  pub packet_is : return.packet_index ≡ k
  pub echoes_are : return.echo_count ≡ n
  pub time_is : return.time ≡ time
  pub call_is : return.call ≡ call
  pub echoed : echoes_of n (packet flow plan next k) ≡ gives return.arrived
  pub not_on_a_leg : damaged_on_a_leg return ≡ false
  pub not_at_the_end : damaged_at_the_end return ≡ false

abbrev pub UndamagedComes : Type 0
UndamagedComes =
    (flow : InnerIpFlow) (plan : TrafficPlan) (next : ℕ) → Accepted flow plan next
    → (k n time : ℕ) → k < plan.packet_count → (call : Call)
    → Undamaged flow plan next k n time call

-- ---- examples: a plan of one packet, that of document 01's case 1 or 3 by its flow

abbrev pub example_plan : TrafficPlan
example_plan = record { packet_count = 1; target_rate_pps = 1; first_send_timestamp_ns = 0 }

-- columns of one row, of any contents
abbrev pub example_observer : Observer
example_observer = observer_of (each_column (7 ∷ [])) fresh

-- What each leg ends with: what reaches each echo, and what arrives.
abbrev pub leg_ends : {sent arrived : List ℕ} {n : ℕ} → Travelled sent n arrived → List (List ℕ)
leg_ends (arrives {arrived = arrived} turned) = arrived ∷ []
leg_ends (echoes {at_echo = at_echo} turned echoed onward) = at_echo ∷ leg_ends onward

-- Whether a return is damaged, by either reading of the word, and whether its call refuses it.
pub record Fate : Type 0 where
  pub on_a_leg : Bool
  pub at_the_end : Bool
  pub refused : Bool

-- The packet comes back by this call. At the end of each leg a field of it has these numbers: one for each leg, and so
-- one more than there are echoes.
pub record Comes (flow : InnerIpFlow) (call : Call) (part : List ℕ → ℕ) (found : List ℕ) (fate : Fate) : Type 0 where
  pub accepted : Accepted flow example_plan 1
  pub takes : Takes example_plan 1 example_observer
  pub return : Return flow example_plan 1
  pub by : return.call ≡ call
  pub at_leg_ends : map part (leg_ends return.travelled) ≡ found
  pub on_a_leg : damaged_on_a_leg return ≡ fate.on_a_leg
  pub at_the_end : damaged_at_the_end return ≡ fate.at_the_end
  pub answer : (receive (send_all example_observer (packets_of example_plan 1)) (handed return)).refuses ≡ fate.refused

-- where the fields stand
abbrev pub hop_limit : List ℕ → ℕ
hop_limit tpdu = field 1 7 tpdu

abbrev pub send_time : List ℕ → ℕ
send_time tpdu = field 8 64 tpdu

abbrev pub udp_checksum : List ℕ → ℕ
udp_checksum tpdu = field 2 26 tpdu

abbrev pub flags_and_fragment_offset : List ℕ → ℕ
flags_and_fragment_offset tpdu = field 2 6 tpdu

pub record Attained : Type 0 where
  pub plans_accepted : PlansAccepted
  pub packets_generated : PacketsGenerated
  pub room_takes : RoomTakes
  pub undamaged_comes : UndamagedComes
  -- A turned bit of the send time is found.
  pub damage_refused : Comes ipv6_flow tpdu_call send_time (1 ∷ [])
      (record { on_a_leg = true; at_the_end = true; refused = true })
  -- The hop limit, sent as 64, is under no checksum: a turned bit of it is not found.
  pub damage_accepted : Comes ipv6_flow tpdu_call hop_limit (65 ∷ [])
      (record { on_a_leg = true; at_the_end = true; refused = false })
  -- Turned before an echo, it is mended there: the two readings of "damaged" differ.
  pub damage_mended : Comes ipv6_flow tpdu_call hop_limit (65 ∷ 64 ∷ [])
      (record { on_a_leg = true; at_the_end = false; refused = false })
  -- "An IPv4 UDP checksum field of 0 is not verified": case 1's 0xB1D8, whose 16 bits are not all equal, turned to 0.
  pub checksum_lost : Comes ipv4_flow tpdu_call udp_checksum (0 ∷ [])
      (record { on_a_leg = true; at_the_end = true; refused = false })
  -- The more-fragments flag turned on, an example of "A probe damaged into a fragment is then one of the refused ones"
  -- (document 02, job 1). The header checksum finds it.
  pub fragment_refused : Comes ipv4_flow tpdu_call flags_and_fragment_offset (0x2000 ∷ [])
      (record { on_a_leg = true; at_the_end = true; refused = true })
  -- By the message call, damaged on two legs, on each within a span of its own.
  pub message_returns : Comes ipv6_flow message_call hop_limit (65 ∷ 65 ∷ [])
      (record { on_a_leg = true; at_the_end = true; refused = false })
  -- After two echoes, damaged between them.
  pub two_echoes : Comes ipv6_flow tpdu_call hop_limit (64 ∷ 65 ∷ 64 ∷ [])
      (record { on_a_leg = true; at_the_end = false; refused = false })
