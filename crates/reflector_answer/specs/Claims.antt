-- What is claimed of the reflector's answers. Proved in proofs/Claims.antt.
use Rattle.std.specs.Prelude.{◌≡◌, ℕ, ◌^◌, ◌<◌, ◌≤◌, List, ◌++◌, length, ◌≢◌, Option, Some, None}
use Rattle.counter.specs.Counter.{one_more}
use Rattle.error.specs.Number.{output_too_short}
use Rattle.error.specs.Outcome.{refused, gives}
use Rattle.measurement.specs.Flow.{address, padded, reversed_of, InRange}
use Rattle.measurement.specs.declared.InnerIpFlow.{InnerIpFlow}
use Rattle.measurement_packet.specs.Packet.{build_of}
use Rattle.measurement_reading.specs.Read.{read_of}
use Rattle.measurement_damage.specs.Claims.{tpdu_built}
use Rattle.gtpu.specs.Element.{elements_of}
use Rattle.gtpu.specs.Indication.{indication_of}
use Rattle.gtpu.specs.Message.{gtpu_msg_gpdu}
use Rattle.reflector_sessions.specs.Judge.{table_outcome}
use Rattle.reflector_sessions.specs.Session.{value_of}
use Rattle.reflector_sessions.specs.declared.ReflectorSession.{ReflectorSession}
use Rattle.reflector_sessions.specs.declared.SocketAddr.{SocketAddr}
use Rattle.reflector_answer.specs.Answer.{written, Outbound, send, Answer, answer}
use Rattle.reflector_answer.specs.Handle.{placed, handle_found}
use Rattle.gtpu.specs.declared.GtpuMessage.{GtpuMessage}
use Rattle.reflector_answer.specs.declared.MultiSessionReflectorConfig.{MultiSessionReflectorConfig}
use Rattle.reflector_answer.specs.declared.ReflectorPolicy.TheVariants.{Echo}
use Rattle.reflector_answer.specs.declared.ReflectorSendReason.{ReflectorSendReason}
use Rattle.reflector_answer.specs.declared.ReflectorSendReason.TheVariants.{ReflectedGpdu, ErrorIndication}
use Rattle.reflector_answer.specs.declared.ReflectorState.{ReflectorState}

-- An answer sends a message for this reason to this address, with these bytes as its payload.
pub record Sends (a : Answer) (reason : ReflectorSendReason) (destination : SocketAddr) (bytes : List ℕ) : Type 0 where
  pub message : Outbound
  pub sent : a.outcome ≡ gives (send message)
  pub why : message.reason ≡ reason
  pub to : message.destination ≡ destination
  pub payload : message.payload ≡ written bytes

-- A G-PDU of an unknown TEID is answered to its sender by an Error Indication that the element walk accepts.
abbrev pub IndicationAccepted : Type 0
IndicationAccepted = (config : MultiSessionReflectorConfig) (state : ReflectorState) (source : SocketAddr)
    (message : GtpuMessage) (payload : List ℕ)
    → message.message_type ≡ gtpu_msg_gpdu
    → (bytes : List ℕ) × Sends (answer config state None source message payload) ErrorIndication source bytes
    × (elements_of bytes ≡ gives tt)

-- And its elements name the TEID that was not known, and the sender's address (document 02, job 7); of an IPv4 address
-- the 4 bytes that count, and zeros.
abbrev pub IndicationNamesTheTunnel : Type 0
IndicationNamesTheTunnel = (config : MultiSessionReflectorConfig) (state : ReflectorState) (source : SocketAddr)
    (message : GtpuMessage) (payload : List ℕ)
    → message.message_type ≡ gtpu_msg_gpdu → message.teid < 2 ^ 32
    → (bytes : List ℕ) × Sends (answer config state None source message payload) ErrorIndication source bytes
    × (indication_of bytes ≡ gives (record {
      teid = message.teid;
      version = source.version;
      peer_address = padded (address source.version source.address);
    }))

-- The state with one G-PDU more received, and nothing else changed.
abbrev pub one_more_received : ReflectorState → ReflectorState
one_more_received state = record {
  stats = record {
    gpdu_received = one_more state.stats.gpdu_received;
    gpdu_forwarded = state.stats.gpdu_forwarded;
    gpdu_sunk = state.stats.gpdu_sunk;
    echo_requests_answered = state.stats.echo_requests_answered;
    error_indications_sent = state.stats.error_indications_sent;
    malformed_rejected = state.stats.malformed_rejected;
  };
  next_error_sequence = state.next_error_sequence;
}

-- The card's "all (*)", for each number by which reading refuses a T-PDU: "(*) In the reflector under echo, the
-- received count has risen by 1", and no other count and no byte of the output has changed. 38 and 39 are such
-- numbers too, with the states of 7 and 4 (document 02, jobs 1 and 3). It is asked that 30, 31 and 15, which come
-- first, are not due.
abbrev pub ReceivedHasRisen : Type 0
ReceivedHasRisen = (rows used k : ℕ) (config : MultiSessionReflectorConfig)
    → table_outcome rows used config.max_sessions ≡ gives k → config.policy ≡ Echo
    → (state : ReflectorState) (session : ReflectorSession) (source : SocketAddr) (message : GtpuMessage)
    (payload output : List ℕ) (n : ℕ)
    → 72 ≤ length output → message.message_type ≡ gtpu_msg_gpdu → read_of payload ≡ refused n
    → let a : Answer = handle_found rows used config state (Some session) source message payload output in
    (a ≡ record { outcome = refused n; state = one_more_received state }) × (placed a.outcome output ≡ output)

-- A built T-PDU for a known session, whatever stands behind it, is echoed to the session's peer; the echo, read back,
-- gives the reversed flow, and the sequence and time of the T-PDU.
abbrev pub EchoReadsBack : Type 0
EchoReadsBack = (config : MultiSessionReflectorConfig) (state : ReflectorState) (session : ReflectorSession)
    (source : SocketAddr) (message : GtpuMessage)
    → message.message_type ≡ gtpu_msg_gpdu → config.policy ≡ Echo
    → (flow : InnerIpFlow) (sequence time : ℕ) → InRange flow sequence time → (behind : List ℕ)
    → (bytes : List ℕ)
    × Sends (answer config state (Some session) source message (build_of flow sequence time ++ behind)) ReflectedGpdu
    (value_of session.peer_addr) bytes
    × (read_of bytes ≡ gives (tpdu_built (reversed_of flow) sequence time))

-- "It is judged 30, 31, 15 (output under 72 bytes)": in a table that 30 and 31 pass, an output of 71 bytes or less is
-- refused by 15 with nothing changed, whatever the message, and one of 72 or more never is. The card's digits stand
-- here, so that the code and specs/Handle.antt cannot both mean another length.
abbrev pub LeastOutput : Type 0
LeastOutput = (rows used n : ℕ) (config : MultiSessionReflectorConfig)
    → table_outcome rows used config.max_sessions ≡ gives n
    → (state : ReflectorState) (session : Option ReflectorSession) (source : SocketAddr) (message : GtpuMessage)
    (payload output : List ℕ)
    → (length output < 72 → handle_found rows used config state session source message payload output
    ≡ record { outcome = refused output_too_short; state = state })
    × (72 ≤ length output
    → (handle_found rows used config state session source message payload output).outcome ≢ refused output_too_short)
