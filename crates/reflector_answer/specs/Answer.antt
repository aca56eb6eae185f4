-- What the reflector answers to a message whose TEID means this session, or none: document 01, leaf 9, with the card's
-- numbers 35 to 37. The output buffer is not spoken of here: an answer has a payload, and specs/Handle.antt says where
-- it stands.
use Rattle.std.specs.Prelude.{ℕ, true, false, not, List, [], ◌∷◌, ◌++◌, Option, Some, None, is_none, ◌==◌}
use Rattle.error.specs.Number.{echo_request_teid_not_zero, echo_request_missing_sequence, unsupported_message_type}
use Rattle.error.specs.Outcome.{Outcome, refused, gives, ◌⇒◌, first_cause}
use Rattle.field.specs.Field.{big_endian}
use Rattle.measurement.specs.Flow.{address}
use Rattle.measurement_damage.specs.Echo.{echo_of}
use Rattle.gtpu.specs.Element.{teid_data_i, gtpu_peer_address, error_indication}
use Rattle.gtpu.specs.Message.{gtpu_msg_echo_request, gtpu_msg_echo_response, gtpu_msg_error_indication}
use Rattle.gtpu.specs.Message.{gtpu_msg_supported_extension_headers_notification, gtpu_msg_end_marker, gtpu_msg_gpdu}
use Rattle.reflector_sessions.specs.Session.{value_of}
use Rattle.reflector_answer.specs.State.{GpduReceived, GpduForwarded, EchoRequestsAnswered, MalformedRejected}
use Rattle.reflector_answer.specs.State.{state_counted, error_indication_sent}
use Rattle.reflector_answer.specs.State as counter
use Rattle.gtpu.specs.declared.GtpuMessage.{GtpuMessage}
use Rattle.reflector_answer.specs.declared.MultiSessionReflectorConfig.{MultiSessionReflectorConfig}
use Rattle.reflector_answer.specs.declared.ReflectorNoopReason.{ReflectorNoopReason}
use Rattle.reflector_answer.specs.declared.ReflectorNoopReason.TheVariants.{GpduSunk, EchoResponseObserved}
use Rattle.reflector_answer.specs.declared.ReflectorNoopReason.TheVariants.{ErrorIndicationObserved}
use Rattle.reflector_answer.specs.declared.ReflectorNoopReason.TheVariants.{EndMarkerIgnored}
use Rattle.reflector_answer.specs.declared.ReflectorNoopReason.TheVariants.{SupportedExtensionHeadersNotificationIgnored}
use Rattle.reflector_answer.specs.declared.ReflectorPolicy.TheVariants.{Echo, SinkAndCount, Route}
use Rattle.reflector_answer.specs.declared.ReflectorSendReason.{ReflectorSendReason}
use Rattle.reflector_answer.specs.declared.ReflectorSendReason.TheVariants.{ReflectedGpdu, RoutedGpdu}
use Rattle.reflector_answer.specs.declared.ReflectorSendReason.TheVariants.{EchoResponse, ErrorIndication}
use Rattle.reflector_sessions.specs.declared.ReflectorSession.{ReflectorSession}
use Rattle.reflector_answer.specs.declared.ReflectorState.{ReflectorState}
use Rattle.reflector_sessions.specs.declared.SocketAddr.{SocketAddr}

-- The payload of an answer: bytes that the reflector writes, or the received payload. "Route hands on the payload
-- uncopied."
pub data Payload : Type 0 where
  written : List ℕ → Payload
  handed_on : Payload

-- The bytes of an answer's payload, given the payload that was received.
abbrev pub payload_bytes : List ℕ → Payload → List ℕ
payload_bytes received (written bytes) = bytes
payload_bytes received handed_on = received

-- A message to send: destination, TEID, type, sequence and payload. "Header bytes are not written here."
pub record Outbound : Type 0 where
  pub reason : ReflectorSendReason
  pub destination : SocketAddr
  pub teid : ℕ
  pub message_type : ℕ
  pub sequence : Option ℕ
  pub payload : Payload

-- What is done with a message that is not refused.
pub data Action : Type 0 where
  noop : ReflectorNoopReason → Action
  send : Outbound → Action

-- The answer to a message: its outcome, and the state that it leaves.
pub record Answer : Type 0 where
  pub outcome : Outcome Action
  pub state : ReflectorState

-- "echoes and routes being type 255 without a sequence"
abbrev pub gpdu : ReflectorSendReason → SocketAddr → ℕ → Payload → Action
gpdu reason destination teid payload =
    send (record {
      reason = reason;
      destination = destination;
      teid = teid;
      message_type = gtpu_msg_gpdu;
      sequence = None;
      payload = payload;
    })

-- The outcome of echoing a payload: "echo to the session's peer address and TEID".
abbrev pub reflected : ReflectorSession → Outcome (List ℕ) → Outcome Action
reflected session (refused n) = refused n
reflected session (gives bytes) =
    gives (gpdu ReflectedGpdu (value_of session.peer_addr) session.peer_teid (written bytes))

-- A G-PDU of a known session, "by policy": "echo to the session's peer address and TEID, sink, or route to the
-- target's".
unfoldable pub gpdu_outcome : MultiSessionReflectorConfig → ReflectorSession → List ℕ → Outcome Action
gpdu_outcome config session payload =
    elim config.policy [
      | Echo ↦ reflected session (echo_of payload)
      | SinkAndCount ↦ gives (noop GpduSunk)
      | Route target ↦ gives (gpdu RoutedGpdu target.destination target.teid handed_on)
    ]

-- "success raises the forwarded or sunk count"; a refusal of the echo raises neither.
abbrev pub gpdu_counted : Outcome Action → ReflectorState → ReflectorState
gpdu_counted (refused n) state = state
gpdu_counted (gives (noop reason)) state = state_counted counter.GpduSunk state
gpdu_counted (gives (send message)) state = state_counted GpduForwarded state

-- "With known TEID the received count rises"
unfoldable pub gpdu_known : MultiSessionReflectorConfig → ReflectorState → ReflectorSession → List ℕ → Answer
gpdu_known config state session payload =
    record {
      outcome = gpdu_outcome config session payload;
      state = gpdu_counted (gpdu_outcome config session payload) (state_counted GpduReceived state);
    }

-- "an Error Indication payload: 16, TEID, 133, length, sender's address, 12 or 24 bytes"
abbrev pub error_indication_to : ℕ → SocketAddr → List ℕ
error_indication_to teid source = error_indication (big_endian 4 teid) (address source.version source.address)

-- What of it stands before an address of so many bytes.
abbrev pub before_address : ℕ → ℕ → List ℕ
before_address teid octets = teid_data_i ∷ (big_endian 4 teid ++ (gtpu_peer_address ∷ big_endian 2 octets))

-- "255 with unknown TEID yields an Error Indication .. as type 26 with TEID 0 and the error sequence, to the sender".
unfoldable pub gpdu_unknown : ReflectorState → SocketAddr → ℕ → Answer
gpdu_unknown state source teid =
    record {
      outcome = gives (send (record {
        reason = ErrorIndication;
        destination = source;
        teid = 0;
        message_type = gtpu_msg_error_indication;
        sequence = Some state.next_error_sequence;
        payload = written (error_indication_to teid source);
      }));
      state = error_indication_sent state;
    }

-- "1 is judged 35, 36, then answered to the sender as type 2 with TEID 0, the request's sequence and the bytes 14 and
-- recovery counter".
unfoldable pub echo_request_outcome : MultiSessionReflectorConfig → SocketAddr → GtpuMessage → Outcome Action
echo_request_outcome config source message =
    first_cause
    ((not (message.teid == 0) ⇒ echo_request_teid_not_zero)
    ∷ (is_none message.sequence_number ⇒ echo_request_missing_sequence)
    ∷ [])
    (gives (send (record {
      reason = EchoResponse;
      destination = source;
      teid = 0;
      message_type = gtpu_msg_echo_response;
      sequence = message.sequence_number;
      payload = written (14 ∷ config.recovery_counter ∷ []);
    })))

-- "and counted"; 35 and 36 leave "all but malformed count, plus 1".
abbrev pub echo_request_counted : Outcome Action → ReflectorState → ReflectorState
echo_request_counted (refused n) state = state_counted MalformedRejected state
echo_request_counted (gives action) state = state_counted EchoRequestsAnswered state

unfoldable pub echo_request : MultiSessionReflectorConfig → ReflectorState → SocketAddr → GtpuMessage → Answer
echo_request config state source message =
    record {
      outcome = echo_request_outcome config source message;
      state = echo_request_counted (echo_request_outcome config source message) state;
    }

-- A message that nothing is done with, and one of another type: "2, 26, 31, 254 do nothing"; 37 leaves what 35 does.
abbrev pub ignored : ReflectorState → ReflectorNoopReason → Answer
ignored state reason = record { outcome = gives (noop reason); state = state }

unfoldable pub other_message : ReflectorState → ℕ → Answer
other_message state message_type =
    elim (message_type == gtpu_msg_echo_response) [
      | true ↦ ignored state EchoResponseObserved
      | false ↦ elim (message_type == gtpu_msg_error_indication) [
        | true ↦ ignored state ErrorIndicationObserved
        | false ↦ elim (message_type == gtpu_msg_end_marker) [
          | true ↦ ignored state EndMarkerIgnored
          | false ↦ elim (message_type == gtpu_msg_supported_extension_headers_notification) [
            | true ↦ ignored state SupportedExtensionHeadersNotificationIgnored
            | false ↦ record {
              outcome = refused unsupported_message_type;
              state = state_counted MalformedRejected state;
            }
          ]
        ]
      ]
    ]

-- A G-PDU: its TEID means a session, or none.
abbrev pub gpdu_answer : MultiSessionReflectorConfig → ReflectorState → Option ReflectorSession → SocketAddr → ℕ
    → List ℕ
    → Answer
gpdu_answer config state (Some session) source teid payload = gpdu_known config state session payload
gpdu_answer config state None source teid payload = gpdu_unknown state source teid

-- A message, by its type.
unfoldable pub answer : MultiSessionReflectorConfig → ReflectorState → Option ReflectorSession → SocketAddr
    → GtpuMessage → List ℕ → Answer
answer config state session source message payload =
    elim (message.message_type == gtpu_msg_gpdu) [
      | true ↦ gpdu_answer config state session source message.teid payload
      | false ↦ elim (message.message_type == gtpu_msg_echo_request) [
        | true ↦ echo_request config state source message
        | false ↦ other_message state message.message_type
      ]
    ]
