-- What is claimed of T-PDUs that are built, read and echoed. proofs/Claims.antt proves each claim.
use Rattle.std.specs.Prelude.{ℕ, zero, suc, ◌+◌, ◌≡◌, List, ◌++◌}
use Rattle.error.specs.Outcome.{Outcome, refused, gives}
use Rattle.field.specs.Field.{Bytes}
use Rattle.checksum.specs.Damage.{Turned}
use Rattle.measurement.specs.Flow.{address, padded, reversed_of, InRange}
use Rattle.measurement.specs.declared.DecodedTpdu.{DecodedTpdu}
use Rattle.measurement.specs.declared.InnerIpFlow.{InnerIpFlow}
use Rattle.measurement_packet.specs.Packet.{build_of}
use Rattle.measurement_reading.specs.Read.{read_of}
use Rattle.measurement_damage.specs.Echo.{echo_of}

-- A flow as it is read back: "of an IPv4 address only the first 4 bytes count, and what makes one leaves the rest 0".
abbrev pub canonical : InnerIpFlow → InnerIpFlow
canonical flow = record {
  version = flow.version;
  src = padded (address flow.version flow.src);
  dst = padded (address flow.version flow.dst);
  src_port = flow.src_port;
  dst_port = flow.dst_port;
}

abbrev pub tpdu_built : InnerIpFlow → ℕ → ℕ → DecodedTpdu
tpdu_built flow sequence time =
    record { flow = canonical flow; measurement = record { sequence = sequence; send_timestamp_ns = time } }

-- Demand 2: "a built packet reads back to its flow, sequence and time"; also where other bytes follow it in the buffer.
abbrev pub ReadsBack : Type 0
ReadsBack = (flow : InnerIpFlow) (sequence time : ℕ) → InRange flow sequence time → (behind : List ℕ)
    → read_of (build_of flow sequence time ++ behind) ≡ gives (tpdu_built flow sequence time)

-- The echo of a built packet is the build of the reversed flow.
abbrev pub EchoIsReversed : Type 0
EchoIsReversed = (flow : InnerIpFlow) (sequence time : ℕ) → InRange flow sequence time → (behind : List ℕ)
    → echo_of (build_of flow sequence time ++ behind) ≡ gives (build_of (reversed_of flow) sequence time)

-- The echo of a built packet's echo is that packet again.
abbrev pub EchoOfEcho : Type 0
EchoOfEcho = (flow : InnerIpFlow) (sequence time : ℕ) → InRange flow sequence time
    → (echo : List ℕ) → echo_of (build_of flow sequence time) ≡ gives echo
    → echo_of echo ≡ gives (build_of flow sequence time)

-- What the leg of an echo begins with: the flow that was read, reversed; "sequence and time kept".
abbrev pub reversed_tpdu : DecodedTpdu → DecodedTpdu
reversed_tpdu tpdu = record { flow = reversed_of tpdu.flow; measurement = tpdu.measurement }

-- Every built or echoed T-PDU, with "the flow, sequence and time that the leg began with". Any bytes that are not
-- refused may have been echoed.
pub data Sent : DecodedTpdu → List ℕ → Type 0 where
  built : (flow : InnerIpFlow) (sequence time : ℕ) → InRange flow sequence time
      → Sent (tpdu_built flow sequence time) (build_of flow sequence time)
  echoed : (tpdu echo : List ℕ) (read : DecodedTpdu)
      → Bytes tpdu → read_of tpdu ≡ gives read → echo_of tpdu ≡ gives echo
      → Sent (reversed_tpdu read) echo

-- An outcome refuses, or is the one expected.
abbrev pub RefusesOr : {A : Type 0} → Outcome A → Outcome A → Type 0
RefusesOr (refused n) expected = Unit {0}
RefusesOr (gives x) expected = gives x ≡ expected

-- Demand 3, first sentence, for one leg on which one span of bits may turn.
pub record DamageOfOneLeg (began : DecodedTpdu) (sent arrived : List ℕ) : Type 0 where
  -- "reading refuses or gives the flow, sequence and time that the leg began with"
  pub reading : RefusesOr (read_of arrived) (gives began)
  -- "echoing refuses or gives the echo of the undamaged T-PDU, byte for byte"
  pub echoing : RefusesOr (echo_of arrived) (echo_of sent)
  -- the echo of the undamaged T-PDU is the build of the reversed flow, with that sequence and time
  pub undamaged_echo : echo_of sent ≡ gives (build_of (reversed_of began.flow)
      began.measurement.sequence began.measurement.send_timestamp_ns)

abbrev pub DamageFound : Type 0
DamageFound = (began : DecodedTpdu) (sent arrived : List ℕ) → Sent began sent → Turned sent arrived
    → DamageOfOneLeg began sent arrived

-- With no bit turned reading does not refuse: so "refuses or gives" is not met by refusing all.
abbrev pub SentIsRead : Type 0
SentIsRead = (began : DecodedTpdu) (sent : List ℕ) → Sent began sent → read_of sent ≡ gives began

-- A T-PDU on its way, echoed n times. On each leg, from building or echoing to the next echoing or to the arrival, one
-- span of bits may turn; no echo is refused.
pub data Travelled : List ℕ → ℕ → List ℕ → Type 0 where
  arrives : {sent arrived : List ℕ} → Turned sent arrived → Travelled sent 0 arrived
  echoes : {sent at_echo echo arrived : List ℕ} {n : ℕ} → Turned sent at_echo → echo_of at_echo ≡ gives echo
      → Travelled echo n arrived → Travelled sent (suc n) arrived

-- A T-PDU echoed n times, no bit turned.
unfoldable pub echoes_of : ℕ → List ℕ → Outcome (List ℕ)
echoes_of zero sent = gives sent
echoes_of (suc n) sent = elim (echo_of sent) [ refused k ↦ refused k | gives echo ↦ echoes_of n echo ]

-- What the leg after n echoes begins with.
abbrev pub reversals : ℕ → DecodedTpdu → DecodedTpdu
reversals zero began = began
reversals (suc n) began = reversals n (reversed_tpdu began)

-- The legs chained: what arrives is the undamaged T-PDU, echoed as often, with at most one span turned; and its last
-- leg began with the first one's flow, reversed as often, and with its sequence and time.
pub record Arrival (began : DecodedTpdu) (sent arrived : List ℕ) (n : ℕ) : Type 0 where
  pub whole : List ℕ
  pub echoed : echoes_of n sent ≡ gives whole
  pub is_sent : Sent (reversals n began) whole
  pub turned : Turned whole arrived

abbrev pub LegsChained : Type 0
LegsChained = (began : DecodedTpdu) (sent arrived : List ℕ) (n : ℕ) → Sent began sent → Travelled sent n arrived
    → Arrival began sent arrived n
