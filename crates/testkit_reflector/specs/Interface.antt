-- How the reflector's values look at the C interface: a policy and a version are numbers, an answer is a number and
-- values beside it.
use Rattle.std.specs.Prelude.{ℕ, ◌≡◌, List, Bool, true, false, Option, Some, None, eqb, replicate}
use Rattle.error.specs.Outcome.{Outcome, refused, gives, outcome_number}
use Rattle.reflector_sessions.specs.Session.{value_of, no_session}
use Rattle.reflector_sessions.specs.Register.{Registering}
use Rattle.reflector_sessions.specs.Remove.{Removing}
use Rattle.reflector_sessions.specs.declared.ReflectorSession.{ReflectorSession}
use Rattle.reflector_sessions.specs.declared.LentSocketAddr.{LentSocketAddr}
use Rattle.reflector_sessions.specs.declared.SocketAddr.{SocketAddr}
use Rattle.reflector_answer.specs.Answer.{Answer}
use Rattle.reflector_answer.specs.Handle.{action_of, placed}
use Rattle.gtpu.specs.declared.GtpuMessage.{GtpuMessage}
use Rattle.reflector_answer.specs.declared.MultiSessionReflectorConfig.{MultiSessionReflectorConfig}
use Rattle.reflector_answer.specs.declared.ReflectorAction.{ReflectorAction}
use Rattle.reflector_answer.specs.declared.ReflectorAction.TheVariants as action
use Rattle.reflector_answer.specs.declared.ReflectorNoopReason.{ReflectorNoopReason}
use Rattle.reflector_answer.specs.declared.ReflectorNoopReason.TheVariants as noop
use Rattle.reflector_answer.specs.declared.ReflectorPolicy.{ReflectorPolicy}
use Rattle.reflector_answer.specs.declared.ReflectorPolicy.TheVariants.{Echo, SinkAndCount, Route}
use Rattle.reflector_answer.specs.declared.ReflectorSendReason.{ReflectorSendReason}
use Rattle.reflector_answer.specs.declared.ReflectorSendReason.TheVariants as send
use Rattle.reflector_answer.specs.declared.ReflectorState.{ReflectorState}
use Rattle.reflector_answer.specs.declared.RouteTarget.{RouteTarget}
use Rattle.measurement.specs.Flow.{version_number}
use Rattle.testkit_reflector.specs.declared.TestkitGtpuMessage.{TestkitGtpuMessage}
use Rattle.testkit_reflector.specs.declared.TestkitHandled.{TestkitHandled}
use Rattle.testkit_reflector.specs.declared.TestkitReflectorConfig.{TestkitReflectorConfig}
use Rattle.testkit_reflector.specs.declared.TestkitRegistered.{TestkitRegistered}
use Rattle.testkit_reflector.specs.declared.TestkitRemoved.{TestkitRemoved}

-- Registering: 0 where it was taken, or a refusal's number; and whether the session was added.
abbrev pub is_added : Outcome Bool → Bool
is_added (refused n) = false
is_added (gives added) = added

abbrev pub registered_numbers : Outcome Bool → ℕ → TestkitRegistered
registered_numbers outcome used = record { number = outcome_number outcome; added = is_added outcome; used = used }

-- The answer and the rows of a registering.
abbrev pub RegistersNumbers : TestkitRegistered → List ReflectorSession → Registering → Type 0
RegistersNumbers r rows to = (r ≡ registered_numbers to.outcome to.table.used) × (rows ≡ to.table.sessions)

-- Removal: 0 where it was taken, or a refusal's number; whether a session was removed; and that session, or none.
abbrev pub is_removed : Outcome (Option ReflectorSession) → Bool
is_removed (refused n) = false
is_removed (gives None) = false
is_removed (gives (Some session)) = true

abbrev pub removed_numbers : Outcome (Option ReflectorSession) → ℕ → ReflectorSession → TestkitRemoved
removed_numbers outcome used session = record {
  number = outcome_number outcome;
  removed = is_removed outcome;
  used = used;
  session = session;
}

-- The session that was removed; beside a refusal and beside none stands no session.
abbrev pub session_of : Outcome (Option ReflectorSession) → ReflectorSession
session_of (refused number) = no_session
session_of (gives None) = no_session
session_of (gives (Some session)) = session

-- The answer and the rows of a removal.
abbrev pub RemovesNumbers : TestkitRemoved → List ReflectorSession → Removing → Type 0
RemovesNumbers r rows to = (r ≡ removed_numbers to.outcome to.table.used (session_of to.outcome))
    × (rows ≡ to.table.sessions)

-- What a message is handled with. Every number is a policy: 0 echo, 1 sink and count, every other route.
unfoldable pub policy_numbered : ℕ → RouteTarget → ReflectorPolicy
policy_numbered n target =
    elim (eqb n 0) [ true ↦ Echo | false ↦ elim (eqb n 1) [ true ↦ SinkAndCount | false ↦ Route target ] ]

-- The number of a policy, in the header's enum.
abbrev pub policy_number : ReflectorPolicy → ℕ
policy_number Echo = 0
policy_number SinkAndCount = 1
policy_number (Route target) = 2

-- The target of a policy; one that has none is read back with any.
abbrev pub target_or : ReflectorPolicy → RouteTarget → RouteTarget
target_or Echo other = other
target_or SinkAndCount other = other
target_or (Route target) other = target

-- A message has no sequence where the number beside it is 0.
unfoldable pub sequence_of : ℕ → ℕ → Option ℕ
sequence_of has sequence = elim (eqb has 0) [ true ↦ None | false ↦ Some sequence ]

-- The target counts under the policy route alone.
abbrev pub config_of : TestkitReflectorConfig → MultiSessionReflectorConfig
config_of c = record {
  max_sessions = c.max_sessions;
  recovery_counter = c.recovery_counter;
  policy = policy_numbered c.policy (record { destination = value_of c.target; teid = c.target_teid });
}

abbrev pub message_of : TestkitGtpuMessage → GtpuMessage
message_of m = record {
  message_type = m.message_type;
  teid = m.teid;
  sequence_number = sequence_of m.has_sequence m.sequence;
}

-- Why nothing is sent, and why a message is.
abbrev pub noop_number : ReflectorNoopReason → ℕ
noop_number noop.GpduSunk = 1
noop_number noop.EchoResponseObserved = 2
noop_number noop.ErrorIndicationObserved = 3
noop_number noop.EndMarkerIgnored = 4
noop_number noop.SupportedExtensionHeadersNotificationIgnored = 5

abbrev pub send_number : ReflectorSendReason → ℕ
send_number send.ReflectedGpdu = 1
send_number send.RoutedGpdu = 2
send_number send.EchoResponse = 3
send_number send.ErrorIndication = 4

-- A sequence: 1 and its value, or 0 and 0 if there is none.
abbrev pub sequence_present : Option ℕ → ℕ
sequence_present None = 0
sequence_present (Some n) = 1

abbrev pub sequence_value : Option ℕ → ℕ
sequence_value None = 0
sequence_value (Some n) = n

abbrev pub address_numbers : SocketAddr → LentSocketAddr
address_numbers a = record { version = version_number a.version; address = a.address; port = a.port }

-- A message to send, without its payload: 1 where it has a sequence.
abbrev pub message_numbers : GtpuMessage → TestkitGtpuMessage
message_numbers m = record {
  message_type = m.message_type;
  teid = m.teid;
  has_sequence = sequence_present m.sequence_number;
  sequence = sequence_value m.sequence_number;
}

-- What stands where nothing is sent: version 4, zeros and no sequence.
abbrev pub no_address : LentSocketAddr
no_address = record { version = 4; address = replicate 16 0; port = 0 }

abbrev pub no_message : TestkitGtpuMessage
no_message = record { message_type = 0; teid = 0; has_sequence = 0; sequence = 0 }

-- A refusal's number, or 0; what is to be done, 0 refused, 1 nothing to send, 2 a message; why nothing is sent, or 0;
-- why a message is, or 0; the bytes in the output; the message; and the state.
abbrev pub handled_numbers : Outcome ReflectorAction → ReflectorState → TestkitHandled
handled_numbers (refused number) state = record {
  number = number;
  action = 0;
  noop_reason = 0;
  send_reason = 0;
  bytes = 0;
  destination = no_address;
  message = no_message;
  state = state;
}
handled_numbers (gives (action.Noop reason)) state = record {
  number = 0;
  action = 1;
  noop_reason = noop_number reason;
  send_reason = 0;
  bytes = 0;
  destination = no_address;
  message = no_message;
  state = state;
}
handled_numbers (gives (action.Send sent)) state = record {
  number = 0;
  action = 2;
  noop_reason = 0;
  send_reason = send_number sent.reason;
  bytes = sent.bytes;
  destination = address_numbers sent.destination;
  message = message_numbers sent.message;
  state = state;
}

-- The answer and the output of a message handled on this output.
abbrev pub AnswersNumbers : TestkitHandled → List ℕ → Answer → List ℕ → Type 0
AnswersNumbers r after a before = (r ≡ handled_numbers (action_of a.outcome) a.state)
    × (after ≡ placed a.outcome before)
