-- What a call that handles a message hands back: the code's answer, the state and the output. "A refusal returns its
-- number and nothing else".
use Rattle.std.specs.Prelude.{◌≡◌, ℕ, ◌≤◌, List, [], ◌∷◌, ◌++◌, length, take, drop, nat_lt, Option, None, Result}
use Rattle.error.specs.Answer.{answered}
use Rattle.error.specs.Number.{output_too_short}
use Rattle.error.specs.Outcome.{Outcome, refused, gives, ◌⇒◌, first_cause}
use Rattle.error.specs.declared.Refusal.{Refusal}
use Rattle.measurement_damage.specs.Echo.{echo_of}
use Rattle.reflector_answer.specs.declared.ReflectorSendReason.{ReflectorSendReason}
use Rattle.reflector_answer.specs.declared.ReflectorSendReason.TheVariants.{ReflectedGpdu, RoutedGpdu}
use Rattle.reflector_answer.specs.declared.ReflectorSendReason.TheVariants.{EchoResponse, ErrorIndication}
use Rattle.reflector_sessions.specs.Judge.{table_causes}
use Rattle.reflector_answer.specs.Answer.{Payload, written, handed_on, Outbound, Action, noop, send, Answer, answer}
use Rattle.gtpu.specs.Message.{gtpu_msg_gpdu}
use Rattle.gtpu.specs.declared.GtpuMessage.{GtpuMessage}
use Rattle.reflector_answer.specs.declared.MultiSessionReflectorConfig.{MultiSessionReflectorConfig}
use Rattle.reflector_answer.specs.declared.OutboundMessage.{OutboundMessage}
use Rattle.reflector_answer.specs.declared.ReflectorAction.{ReflectorAction}
use Rattle.reflector_answer.specs.declared.ReflectorAction.TheVariants.{Noop, Send}
use Rattle.reflector_sessions.specs.declared.ReflectorSession.{ReflectorSession}
use Rattle.reflector_answer.specs.declared.ReflectorState.{ReflectorState}
use Rattle.reflector_sessions.specs.declared.SocketAddr.{SocketAddr}

-- How many bytes of a payload are in the output.
abbrev pub written_length : Payload → ℕ
written_length (written bytes) = length bytes
written_length handed_on = 0

-- What is sent for a reason, with `count` bytes at the front of the output: only a route hands on what was received.
abbrev pub payload_meant : ReflectorSendReason → ℕ → List ℕ → Payload
payload_meant ReflectedGpdu count output = written (take count output)
payload_meant RoutedGpdu count output = handed_on
payload_meant EchoResponse count output = written (take count output)
payload_meant ErrorIndication count output = written (take count output)

-- What each case of the answer means, with the output as the call leaves it.
abbrev pub action_means : Outcome ReflectorAction → List ℕ → Outcome Action
action_means (refused number) output = refused number
action_means (gives (Noop reason)) output = gives (noop reason)
action_means (gives (Send message)) output = gives (send (record {
  reason = message.reason;
  destination = message.destination;
  teid = message.message.teid;
  message_type = message.message.message_type;
  sequence = message.message.sequence_number;
  payload = payload_meant message.reason message.bytes output;
}))

-- And back: the answer to each outcome. It says how many bytes are in the output.
abbrev pub message_of : Outbound → OutboundMessage
message_of m = record {
  reason = m.reason;
  destination = m.destination;
  message = record { message_type = m.message_type; teid = m.teid; sequence_number = m.sequence };
  bytes = written_length m.payload;
}

abbrev pub action_of : Outcome Action → Outcome ReflectorAction
action_of (refused number) = refused number
action_of (gives (noop reason)) = gives (Noop reason)
action_of (gives (send message)) = gives (Send (message_of message))

-- A G-PDU that is sent on, with the count of its bytes in the output.
abbrev pub gpdu_sent : ReflectorSendReason → SocketAddr → ℕ → ℕ → ReflectorAction
gpdu_sent reason destination teid bytes = Send (record {
  reason = reason;
  destination = destination;
  message = record { message_type = gtpu_msg_gpdu; teid = teid; sequence_number = None };
  bytes = bytes;
})

-- A payload at the front of the output. "On success, output bytes past the answer keep their contents."
abbrev pub placed : Outcome Action → List ℕ → List ℕ
placed (refused number) buffer = buffer
placed (gives (noop reason)) buffer = buffer
placed (gives (send message)) buffer = elim message.payload
    [ written bytes ↦ bytes ++ drop (length bytes) buffer | handed_on ↦ buffer ]

-- What a call hands back, and the state as it leaves it, are those of the answer `a`.
abbrev pub Answered : Result ReflectorAction Refusal → ReflectorState → Answer → Type 0
Answered r state a = (answered r ≡ action_of a.outcome) × (state ≡ a.state)

-- What a call hands back, the state and the output as it leaves them, are those of the answer `a` on the output
-- `before`.
abbrev pub Answers : Result ReflectorAction Refusal → ReflectorState → List ℕ → Answer → List ℕ → Type 0
Answers r state after a before = (answered r ≡ action_of a.outcome) × (state ≡ a.state)
    × (after ≡ placed a.outcome before)

-- What a call promises: the case of its answer means the outcome, and everything beside it is fixed as well.
abbrev pub HandledAs : Result ReflectorAction Refusal → ReflectorState → List ℕ → Answer → List ℕ → Type 0
HandledAs r state after a before = (action_means (answered r) after ≡ a.outcome) × Answers r state after a before

-- The output has room for the echo of a payload, if there is one.
abbrev pub EchoFits : List ℕ → List ℕ → Type 0
EchoFits payload output = (bytes : List ℕ) → echo_of payload ≡ gives bytes → length bytes ≤ length output

-- The least output: the code's REFLECTOR_BYTES, room for the longest answer, the echo of an IPv6 T-PDU.
abbrev pub reflector_bytes : ℕ
reflector_bytes = 72

-- "It is judged 30, 31, 15 (output under 72 bytes), then by type." A refusal by these leaves all.
unfoldable pub handle_found : ℕ → ℕ → MultiSessionReflectorConfig → ReflectorState → Option ReflectorSession
    → SocketAddr → GtpuMessage → List ℕ → List ℕ → Answer
handle_found rows used config state session source message payload buffer =
    elim (first_cause
    (table_causes rows used config.max_sessions ++ (nat_lt (length buffer) reflector_bytes ⇒ output_too_short) ∷ [])
    (gives (tt {0}))) [
      | refused number ↦ record { outcome = refused number; state = state }
      | gives u ↦ answer config state session source message payload
    ]
