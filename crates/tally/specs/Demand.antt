-- Demand 3, whole: one claim about a whole list of returns, over the definitions that the contracts of the public calls
-- name. proofs/Demand.antt proves it.
use Rattle.std.specs.Prelude.{ℕ, ◌+◌, ◌<◌, ◌≡◌, List, [], ◌∷◌, map, Bool, true, false, not, ◌||◌}
use Rattle.error.specs.Outcome.{Outcome, refused, gives}
use Rattle.field.specs.Field.{same_bytes}
use Rattle.evidence.specs.declared.PacketContinuityBudget.{PacketContinuityBudget}
use Rattle.measurement.specs.Flow.{InRange}
use Rattle.measurement.specs.declared.InnerIpFlow.{InnerIpFlow}
use Rattle.measurement.specs.declared.MeasurementHeader.{MeasurementHeader}
use Rattle.measurement_packet.specs.Packet.{build_of}
use Rattle.measurement_damage.specs.Claims.{DamageFound, Travelled, arrives, echoes, echoes_of}
use Rattle.plan.specs.Plan.{time_at, packets_of}
use Rattle.traffic.specs.Generate.{generate_of}
use Rattle.plan.specs.declared.TrafficPlan.{TrafficPlan}
use Rattle.gtpu.specs.Message.{gtpu_msg_gpdu}
use Rattle.observer.specs.Counts.{fresh}
use Rattle.observer.specs.Judge.{Step}
use Rattle.observer.specs.Observer.{Observer, rows}
use Rattle.observer.specs.Sending.{record_sent}
use Rattle.return_calls.specs.Returns.{record_received_tpdu, MessageStep, record_return_message}
use Rattle.report.specs.Report.{reporting}
use Rattle.tally.specs.Tally.{Tally, tally_of, Fed, is_refused, tally_returns, counts_of, tally_report}

-- ---- the plan and its packets

-- An accepted plan: with some buffer the generator takes it. Flow, next sequence and first time are of the code's
-- types.
pub record Accepted (flow : InnerIpFlow) (plan : TrafficPlan) (next : ℕ) : Type 0 where
  pub in_range : InRange flow next plan.first_send_timestamp_ns
  pub buffer : List ℕ
  pub bytes : ℕ
  pub generated : (generate_of flow plan next buffer).outcome ≡ gives bytes

-- Packet k of the plan, as built.
abbrev pub packet : InnerIpFlow → TrafficPlan → ℕ → ℕ → List ℕ
packet flow plan next k = build_of flow (next + k) (time_at plan k)

-- ---- sending: "takes the plan's packets as sent, each at its sequence and time, none refused"

abbrev pub send_all : Observer → List MeasurementHeader → Observer
send_all o [] = o
send_all o (p ∷ packets) = send_all (record_sent o p.sequence p.send_timestamp_ns).observer packets

abbrev pub NoneRefused : Observer → List MeasurementHeader → Type 0
NoneRefused o [] = Unit {0}
NoneRefused o (p ∷ packets) =
    ((record_sent o p.sequence p.send_timestamp_ns).outcome ≡ gives tt)
    × NoneRefused (record_sent o p.sequence p.send_timestamp_ns).observer packets

-- A fresh observer, whatever its columns hold and however long they are, on which all packets can be entered.
pub record Takes (plan : TrafficPlan) (next : ℕ) (o : Observer) : Type 0 where
  pub is_fresh : o.counts ≡ fresh
  pub none_refused : NoneRefused o (packets_of plan next)

-- ---- returns: "by either call of leaf 6 (a T-PDU, or a message of type 255 with it)"

-- The message call looks at no TEID and at no sequence of the message, so they may be anything.
pub data Call : Type 0 where
  tpdu_call : Call
  message_call : Call

-- What a call is handed.
pub record Handed : Type 0 where
  pub call : Call
  pub time : ℕ
  pub tpdu : List ℕ

-- What the call does with it: whether it refuses, and the observer that it leaves.
pub record Taken : Type 0 where
  pub refuses : Bool
  pub observer : Observer

abbrev pub taken_by : Call → Observer → ℕ → List ℕ → Taken
taken_by tpdu_call o time tpdu =
    let s : Step = record_received_tpdu o time tpdu in record { refuses = is_refused s.outcome; observer = s.observer }
taken_by message_call o time tpdu =
    let s : MessageStep = record_return_message o time gtpu_msg_gpdu tpdu in
    record { refuses = is_refused s.outcome; observer = s.observer }

abbrev pub receive : Observer → Handed → Taken
receive o h = taken_by h.call o h.time h.tpdu

-- "Each call gets the sheet as the last one left it, refused or not".
abbrev pub receive_all : Observer → List Handed → Observer
receive_all o [] = o
receive_all o (h ∷ hs) = receive_all (receive o h).observer hs

-- "A return is a packet of the plan, echoed any number of times or never, and a time; where an echo refuses, none
-- comes." Each of its legs may be damaged (`Travelled`). Packets may be lost, repeated and reordered: any list of
-- returns will do.
pub record Return (flow : InnerIpFlow) (plan : TrafficPlan) (next : ℕ) : Type 0 where
  pub packet_index : ℕ
  pub planned : packet_index < plan.packet_count
  pub echo_count : ℕ
  pub arrived : List ℕ
  pub travelled : Travelled (packet flow plan next packet_index) echo_count arrived
  pub time : ℕ
  pub call : Call

-- some bit was turned on some leg
abbrev pub some_leg_turned : {sent arrived : List ℕ} {n : ℕ} → Travelled sent n arrived → Bool
some_leg_turned (arrives {sent = sent} {arrived = arrived} turned) = not (same_bytes arrived sent)
some_leg_turned (echoes {sent =
    sent} {at_echo = at_echo} turned echoed onward) = not (same_bytes at_echo sent) || some_leg_turned onward

-- the bytes of an echo that is not refused
abbrev pub bytes_given : Outcome (List ℕ) → List ℕ
bytes_given (refused n) = []
bytes_given (gives bytes) = bytes

module _ {flow : InnerIpFlow} {plan : TrafficPlan} {next : ℕ} where
  -- "Made whole, it is that packet echoed as often, no bit turned." (No such echo refuses: specs/Attained.antt.)
  abbrev pub whole_bytes : Return flow plan next → List ℕ
  whole_bytes r = bytes_given (echoes_of r.echo_count (packet flow plan next r.packet_index))

  abbrev pub handed : Return flow plan next → Handed
  handed r = record { call = r.call; time = r.time; tpdu = r.arrived }

  abbrev pub made_whole : Return flow plan next → Handed
  made_whole r = record { call = r.call; time = r.time; tpdu = whole_bytes r }

  abbrev pub fed : Return flow plan next → Fed
  fed r = record { packet = r.packet_index; time = r.time; arrived = r.arrived }

  -- "Damaged" can be read in two ways: a bit was turned on some leg; or the bytes that arrive are not the whole ones.
  abbrev pub damaged_on_a_leg : Return flow plan next → Bool
  damaged_on_a_leg r = some_leg_turned r.travelled

  abbrev pub damaged_at_the_end : Return flow plan next → Bool
  damaged_at_the_end r = not (same_bytes r.arrived (whole_bytes r))

  -- The second list: "the same returns at the same times, each damaged one left out if refused, else made whole".
  -- Whether a return is refused is asked of the call at that point of the first run, whose observer is carried along.
  abbrev pub second_list : (Return flow plan next → Bool) → Observer → List (Return flow plan next) → List Handed
  second_list damaged o [] = []
  second_list damaged o (r ∷ rs) =
      let taken : Taken = receive o (handed r) in
      let rest : List Handed = second_list damaged taken.observer rs in
      elim (damaged r) [
        | false ↦ handed r ∷ rest
        | true ↦ elim taken.refuses [ true ↦ rest | false ↦ made_whole r ∷ rest ]
      ]

  -- ---- the runs

  -- the first observer after the plan and the returns
  abbrev pub first_run : Observer → List (Return flow plan next) → Observer
  first_run first returns = receive_all (send_all first (packets_of plan next)) (map handed returns)

  -- "a second fresh sheet with the same plan all entered and then the same returns at the same times, each damaged one
  -- left out if refused, else made whole"
  abbrev pub second_run : (Return flow plan next → Bool) → Observer → Observer → List (Return flow plan next) → Observer
  second_run damaged first second returns =
      receive_all (send_all second (packets_of plan next))
      (second_list damaged (send_all first (packets_of plan next)) returns)

  -- the tally, fed the packets and then the returns
  abbrev pub tally_run : List (Return flow plan next) → Tally
  tally_run returns = tally_returns (tally_of (packets_of plan next)) (map fed returns)

-- ---- the claim

-- "the used rows, the counters and, for every budget and window end, the report are those of document 01's tally"; the
-- report is given, and not refused.
pub record IsTally (o : Observer) (a : Tally) : Type 0 where
  pub used_rows : rows o ≡ a.rows
  pub counters : o.counts ≡ counts_of a
  pub report : (window_start window_end : ℕ) (budget : PacketContinuityBudget)
      → reporting o window_start window_end budget ≡ gives (tally_report a window_start window_end budget)

-- Both observers, which need not be alike: their columns may hold anything and have any lengths.
pub record Run {flow : InnerIpFlow} {plan : TrafficPlan} {next : ℕ} (first second : Observer)
    (returns : List (Return flow plan next)) : Type 0 where
  pub tally : IsTally (first_run first returns) (tally_run returns)
  pub whole : IsTally (second_run damaged_on_a_leg first second returns) (tally_run returns)
  pub whole_at_the_end : IsTally (second_run damaged_at_the_end first second returns) (tally_run returns)

pub record Demand3 : Type 0 where
  -- the first sentence: one leg, of every built or echoed T-PDU
  pub one_leg : DamageFound
  -- the second and the third: "for every accepted plan, all entered on a fresh sheet, and every list of returns after
  -- that"
  pub all_returns : (flow : InnerIpFlow) (plan : TrafficPlan) (next : ℕ) → Accepted flow plan next
      → (first second : Observer) → Takes plan next first → Takes plan next second
      → (returns : List (Return flow plan next)) → Run first second returns
