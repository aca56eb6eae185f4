-- Our reflector, and the Rust's that holds the same: the `Vec` of sessions is the used rows of the lent slice.
use Rattle.std.specs.Prelude.{◌≡◌, ℕ, ◌<◌, List, ◌++◌, map, length, drop, Option, Some, None}
use Rattle.error.specs.Outcome.{Outcome, refused, gives}
use Rattle.measurement.specs.Flow.{address}
use Rattle.measurement.specs.declared.IpVersion.{IpVersion}
use Rattle.measurement.specs.declared.IpVersion.TheVariants.{V4, V6}
use Rattle.reflector.specs.Handle.{handle_datagram}
use Rattle.reflector_sessions.specs.Session.{value_of}
use Rattle.reflector_sessions.specs.Table.{Table, table_of, used_rows}
use Rattle.reflector_sessions.specs.declared.ReflectorSession.{ReflectorSession}
use Rattle.reflector_sessions.specs.declared.SocketAddr.{SocketAddr}
use Rattle.reflector_answer.specs.Answer.{payload_bytes, Action, noop, send, Answer}
use Rattle.reflector_answer.specs.State.{fresh}
use Rattle.gtpu.specs.declared.GtpuMessage.{GtpuMessage}
use Rattle.reflector_answer.specs.declared.MultiSessionReflectorConfig.{MultiSessionReflectorConfig}
use Rattle.reflector_answer.specs.declared.ReflectorNoopReason.{ReflectorNoopReason}
use Rattle.reflector_answer.specs.declared.ReflectorNoopReason.TheVariants.{GpduSunk, EchoResponseObserved}
use Rattle.reflector_answer.specs.declared.ReflectorNoopReason.TheVariants.{ErrorIndicationObserved, EndMarkerIgnored}
use Rattle.reflector_answer.specs.declared.ReflectorNoopReason.TheVariants.{SupportedExtensionHeadersNotificationIgnored}
use Rattle.reflector_answer.specs.declared.ReflectorPolicy.{ReflectorPolicy}
use Rattle.reflector_answer.specs.declared.ReflectorPolicy.TheVariants.{Echo, SinkAndCount, Route}
use Rattle.reflector_answer.specs.declared.ReflectorSendReason.TheVariants.{ReflectedGpdu, RoutedGpdu, EchoResponse}
use Rattle.reflector_answer.specs.declared.ReflectorSendReason.TheVariants.{ErrorIndication}
use Rattle.reflector_answer.specs.declared.ReflectorState.{ReflectorState}
use Rattle.rust_reference.specs.Error.{Result, Ok, Err}
use Rattle.rust_reference.specs.Gtpu as gtpu
use Rattle.rust_reference.specs.Map as map
use Rattle.rust_reference.specs.Reflector as rust

-- What the caller holds between calls: the lent slice with its used count, the configuration, which has the maximum,
-- and the state.
pub record Reflector : Type 0 where
  pub sessions : List ReflectorSession
  pub used : ℕ
  pub config : MultiSessionReflectorConfig
  pub state : ReflectorState

abbrev pub table_in : Reflector → Table
table_in r = table_of r.sessions r.used r.config.max_sessions

-- The reflector with this table; no call changes the maximum.
abbrev pub with_table : Table → Reflector → Reflector
with_table t r = record { sessions = t.sessions; used = t.used; config = r.config; state = r.state }

abbrev pub with_state : ReflectorState → Reflector → Reflector
with_state state r = record { sessions = r.sessions; used = r.used; config = r.config; state = state }

-- Its answer to a message.
abbrev pub handling : Reflector → SocketAddr → GtpuMessage → List ℕ → List ℕ → Answer
handling r source message payload buffer =
    handle_datagram r.sessions r.used r.config r.state source message payload buffer

-- "Fresh: no used row, all counts 0, error sequence 1."
abbrev pub fresh_reflector : List ReflectorSession → MultiSessionReflectorConfig → Reflector
fresh_reflector sessions config = record { sessions = sessions; used = 0; config = config; state = fresh }

-- ---- the Rust's

-- "of an IPv4 address only the first 4 bytes count"
abbrev pub rust_ip : IpVersion → List ℕ → rust.IpAddr
rust_ip V4 bytes = rust.V4 (address V4 bytes)
rust_ip V6 bytes = rust.V6 (address V6 bytes)

abbrev pub rust_address : SocketAddr → rust.SocketAddr
rust_address a = record { ip = rust_ip a.version a.address; port = a.port }

abbrev pub rust_session : ReflectorSession → rust.ReflectorSession
rust_session s = record {
  local_teid = s.local_teid;
  peer_teid = s.peer_teid;
  peer_addr = rust_address (value_of s.peer_addr);
}

abbrev pub rust_policy : ReflectorPolicy → rust.ReflectorPolicy
rust_policy Echo = rust.Echo
rust_policy SinkAndCount = rust.SinkAndCount
rust_policy (Route target) = rust.Route (record { destination = rust_address target.destination; teid = target.teid })

abbrev pub rust_config : MultiSessionReflectorConfig → rust.MultiSessionReflectorConfig
rust_config config = record {
  max_sessions = config.max_sessions;
  recovery_counter = config.recovery_counter;
  policy = rust_policy config.policy;
}

abbrev pub rust_reflector : Reflector → rust.GtpuReflector
rust_reflector r = record {
  sessions = map rust_session (used_rows (table_in r));
  max_sessions = r.config.max_sessions;
  recovery_counter = r.config.recovery_counter;
  policy = rust_policy r.config.policy;
  stats = r.state.stats;
  next_error_sequence = r.state.next_error_sequence;
}

abbrev pub rust_sequence : Option ℕ → map.Option ℕ
rust_sequence None = map.None
rust_sequence (Some sequence) = map.Some sequence

abbrev pub rust_message : GtpuMessage → List ℕ → gtpu.GtpuMessage
rust_message message payload = record {
  message_type = message.message_type;
  teid = message.teid;
  sequence_number = rust_sequence message.sequence_number;
  payload = payload;
}

-- ---- answers

-- a session that was removed, or none
abbrev pub rust_removed : Option ReflectorSession → map.Option rust.ReflectorSession
rust_removed None = map.None
rust_removed (Some session) = map.Some (rust_session session)

abbrev pub rust_reason : ReflectorNoopReason → rust.NoopReason
rust_reason GpduSunk = rust.G_PDU_sunk
rust_reason EchoResponseObserved = rust.echo_response_observed
rust_reason ErrorIndicationObserved = rust.error_indication_observed
rust_reason EndMarkerIgnored = rust.end_marker_ignored
rust_reason SupportedExtensionHeadersNotificationIgnored = rust.supported_extension_headers_notification_ignored

abbrev pub rust_action : List ℕ → Action → rust.ReflectorAction
rust_action received (noop reason) = rust.Noop (rust_reason reason)
rust_action received (send message) =
    rust.Send (rust_address message.destination)
    (record {
      message_type = message.message_type;
      teid = message.teid;
      sequence_number = rust_sequence message.sequence;
      payload = payload_bytes received message.payload;
    })
    message.reason

-- An outcome with its value in the Rust's terms.
abbrev pub outcome_to : {A B : Type 0} → (A → B) → Outcome A → Outcome B
outcome_to value (refused n) = refused n
outcome_to value (gives x) = gives (value x)

-- The output beside the Rust's action: the payload of what is sent at the front, and the bytes past it kept. "Route
-- hands on the payload uncopied."
abbrev pub in_output : Result rust.ReflectorAction → List ℕ → List ℕ
in_output (Err error) buffer = buffer
in_output (Ok (rust.Noop reason)) buffer = buffer
in_output (Ok (rust.Send destination packet RoutedGpdu)) buffer = buffer
in_output (Ok (rust.Send destination packet ReflectedGpdu)) buffer =
    packet.payload ++ drop (length packet.payload) buffer
in_output (Ok (rust.Send destination packet EchoResponse)) buffer =
    packet.payload ++ drop (length packet.payload) buffer
in_output (Ok (rust.Send destination packet ErrorIndication)) buffer =
    packet.payload ++ drop (length packet.payload) buffer

-- ---- what the Rust's types and `new_multi` see to

-- There is such a reflector in the Rust: `new_multi` makes one of this configuration.
abbrev pub IsMade : Reflector → Type 0
IsMade r = (made : rust.GtpuReflector) × (rust.new_multi (rust_config r.config) ≡ Ok made)

-- The error sequence is a u16.
abbrev pub SequenceFits : Reflector → Type 0
SequenceFits r = r.state.next_error_sequence < 65536
