-- The Rust's reflector.rs: `GtpuReflector` with `ReflectorSessions::Multiple`, made by `new_multi`. (`new` and
-- `Single`, a reflector of one session, are not ported.) What `decode_gtpu` refuses is not here: a datagram is the
-- message in it.
use Rattle.std.specs.Prelude.{ℕ, suc, ◌+◌, ◌-◌, ◌%◌, max, Bool, true, false, not, ◌&&◌, ◌||◌, List, [], ◌∷◌, ◌++◌, length, take, ◌==◌, nat_eq, nat_le, nat_lt, slice_index_or, slice_set}
use Rattle.field.specs.Field.{big_endian}
use Rattle.reflector_answer.specs.State.{ReflectorCounter}
use Rattle.reflector_answer.specs.State.{GpduReceived, GpduForwarded, GpduSunk}
use Rattle.reflector_answer.specs.State.{EchoRequestsAnswered, ErrorIndicationsSent}
use Rattle.reflector_answer.specs.State.{MalformedRejected}
use Rattle.reflector_answer.specs.declared.ReflectorSendReason.{ReflectorSendReason}
use Rattle.reflector_answer.specs.declared.ReflectorSendReason.TheVariants.{ReflectedGpdu, RoutedGpdu, EchoResponse}
use Rattle.reflector_answer.specs.declared.ReflectorSendReason.TheVariants.{ErrorIndication}
use Rattle.reflector_answer.specs.declared.ReflectorStats.{ReflectorStats}
use Rattle.rust_reference.specs.Error as error
use Rattle.rust_reference.specs.Error.{Result, Ok, Err, InvalidPacket, InvalidReflectorCapacity}
use Rattle.rust_reference.specs.Error.{InvalidReflectorSession, ReflectorSessionConflict}
use Rattle.rust_reference.specs.Error.{ReflectorSessionCapacityExceeded, return_if, ◌>>◌}
use Rattle.rust_reference.specs.Gtpu.{GtpuMessage, GTPU_MSG_ECHO_REQUEST, GTPU_MSG_ECHO_RESPONSE}
use Rattle.rust_reference.specs.Gtpu.{GTPU_MSG_ERROR_INDICATION}
use Rattle.rust_reference.specs.Gtpu.{GTPU_MSG_SUPPORTED_EXTENSION_HEADERS_NOTIFICATION, GTPU_MSG_END_MARKER}
use Rattle.rust_reference.specs.Gtpu.{GTPU_MSG_GPDU, encode_gpdu, encode_echo_response}
use Rattle.rust_reference.specs.Gtpu.{encode_error_indication}
use Rattle.rust_reference.specs.Map.{Option, None, Some}
use Rattle.rust_reference.specs.Measurement.{echo_tpdu}
use Rattle.rust_reference.specs.Values.{same, saturating_add}

-- line 14
abbrev pub MAX_REFLECTOR_SESSIONS : ℕ
MAX_REFLECTOR_SESSIONS = 4096

-- `std::net`: an address is its octets. Flow info and scope, which a `SocketAddrV6` has beside these, are 0 in the
-- compared domain.
pub data IpAddr : Type 0 where
  V4 V6 : List ℕ → IpAddr

pub record SocketAddr : Type 0 where
  pub ip : IpAddr
  pub port : ℕ

-- lines 18 to 23
pub record RouteTarget : Type 0 where
  pub destination : SocketAddr
  pub teid : ℕ

-- lines 27 to 34
pub data ReflectorPolicy : Type 0 where
  Echo SinkAndCount : ReflectorPolicy
  Route : RouteTarget → ReflectorPolicy

-- lines 53 to 60
pub record ReflectorSession : Type 0 where
  pub local_teid : ℕ
  pub peer_teid : ℕ
  pub peer_addr : SocketAddr

-- lines 74 to 81
pub record MultiSessionReflectorConfig : Type 0 where
  pub max_sessions : ℕ
  pub recovery_counter : ℕ
  pub policy : ReflectorPolicy

-- Lines 85 to 98, `ReflectorStats`, and lines 102 to 111, `ReflectorSendReason`: ours have the same fields and cases.
-- Lines 115 to 130; a text is a constructor, with hyphens for its spaces.
pub data NoopReason : Type 0 where
  echo_response_observed error_indication_observed end_marker_ignored : NoopReason
  supported_extension_headers_notification_ignored G_PDU_sunk : NoopReason

pub data ReflectorAction : Type 0 where
  Noop : NoopReason → ReflectorAction
  Send : SocketAddr → GtpuMessage → ReflectorSendReason → ReflectorAction

-- lines 134 to 141
pub record GtpuReflector : Type 0 where
  pub sessions : List ReflectorSession
  pub max_sessions : ℕ
  pub recovery_counter : ℕ
  pub policy : ReflectorPolicy
  pub stats : ReflectorStats
  pub next_error_sequence : ℕ

-- What a call answers, and the reflector as it leaves it.
pub record Called (A : Type 0) : Type 0 where
  pub result : A
  pub reflector : GtpuReflector

-- `let x = attempt?;` in such a call: an error returns, and the reflector stays as it is then.
abbrev pub attempted : {A B : Type 0} → Result A → GtpuReflector → (A → Called (Result B)) → Called (Result B)
attempted (Ok x) r rest = rest x
attempted (Err e) r rest = record { result = Err e; reflector = r }

-- ---- `==`, derived

abbrev pub same_ip : IpAddr → IpAddr → Bool
same_ip (V4 a) (V4 b) = same a b
same_ip (V4 a) (V6 b) = false
same_ip (V6 a) (V4 b) = false
same_ip (V6 a) (V6 b) = same a b

abbrev pub same_session : ReflectorSession → ReflectorSession → Bool
same_session a b =
    (a.local_teid == b.local_teid)
    && (a.peer_teid == b.peer_teid
    && (same_ip a.peer_addr.ip b.peer_addr.ip && a.peer_addr.port == b.peer_addr.port))

-- ---- the sessions, a `Vec`

-- lines 150 to 158
abbrev pub find : ℕ → List ReflectorSession → Option ReflectorSession
find local_teid [] = None
find local_teid (session ∷ sessions) =
    elim (session.local_teid == local_teid) [ true ↦ Some session | false ↦ find local_teid sessions ]

-- `position`, lines 184 to 186
abbrev pub position : ℕ → List ReflectorSession → Option ℕ
position local_teid [] = None
position local_teid (session ∷ sessions) =
    elim (session.local_teid == local_teid) [
      | true ↦ Some 0
      | false ↦ elim (position local_teid sessions) [ None ↦ None | Some index ↦ Some (suc index) ]
    ]

-- What a `Vec` has at an index. The Rust panics past the end; each index here is a `position`, or the last one.
abbrev pub at : List ReflectorSession → ℕ → ReflectorSession
at sessions index =
    slice_index_or sessions index
    (record { local_teid = 0; peer_teid = 0; peer_addr = record { ip = V4 []; port = 0 } })

-- What `Vec::swap_remove` leaves: the last element stands in the hole, and the `Vec` is one shorter.
abbrev pub swap_remove : List ReflectorSession → ℕ → List ReflectorSession
swap_remove sessions index = take (length sessions - 1) (slice_set sessions index (at sessions (length sessions - 1)))

-- `self.sessions = ..`
abbrev pub with_sessions : List ReflectorSession → GtpuReflector → GtpuReflector
with_sessions sessions r = record {
  sessions = sessions;
  max_sessions = r.max_sessions;
  recovery_counter = r.recovery_counter;
  policy = r.policy;
  stats = r.stats;
  next_error_sequence = r.next_error_sequence;
}

-- ---- the calls on the sessions

-- lines 224 to 236
unfoldable pub new_multi : MultiSessionReflectorConfig → Result GtpuReflector
new_multi config = do
  return_if (config.max_sessions == 0 || nat_lt MAX_REFLECTOR_SESSIONS config.max_sessions)
      InvalidReflectorCapacity
  Ok (record {
    sessions = [];
    max_sessions = config.max_sessions;
    recovery_counter = config.recovery_counter;
    policy = config.policy;
    stats = record {
      gpdu_received = 0;
      gpdu_forwarded = 0;
      gpdu_sunk = 0;
      echo_requests_answered = 0;
      error_indications_sent = 0;
      malformed_rejected = 0;
    };
    next_error_sequence = 1;
  })

-- lines 417 to 422
unfoldable pub validate_session : ReflectorSession → Result (Unit {0})
validate_session session = do
  return_if (session.local_teid == 0 || (session.peer_teid == 0 || session.peer_addr.port == 0))
      InvalidReflectorSession
  Ok tt

-- lines 264 to 281
unfoldable pub register_session : GtpuReflector → ReflectorSession → Called (Result Bool)
register_session r session =
    attempted (validate_session session) r λ u.
    elim (find session.local_teid r.sessions) [
      | Some existing ↦
          elim (same_session existing session) [
            | true ↦ record { result = Ok false; reflector = r }
            | false ↦ record { result = Err ReflectorSessionConflict; reflector = r }
          ]
      | None ↦
          elim (nat_le r.max_sessions (length r.sessions)) [
            | true ↦ record { result = Err ReflectorSessionCapacityExceeded; reflector = r }
            | false ↦ record { result = Ok true; reflector = with_sessions (r.sessions ++ session ∷ []) r }
          ]
    ]

-- lines 286 to 288, by lines 183 to 188
unfoldable pub remove_session : GtpuReflector → ℕ → Called (Option ReflectorSession)
remove_session r local_teid =
    elim (position local_teid r.sessions) [
      | None ↦ record { result = None; reflector = r }
      | Some index ↦ record {
        result = Some (at r.sessions index);
        reflector = with_sessions (swap_remove r.sessions index) r;
      }
    ]

-- ---- a datagram

-- `self.stats.field = self.stats.field.saturating_add(1)`, of one of the fields
abbrev pub raised : ReflectorCounter → ReflectorStats → ReflectorStats
raised GpduReceived s = record {
  gpdu_received = saturating_add s.gpdu_received 1;
  gpdu_forwarded = s.gpdu_forwarded;
  gpdu_sunk = s.gpdu_sunk;
  echo_requests_answered = s.echo_requests_answered;
  error_indications_sent = s.error_indications_sent;
  malformed_rejected = s.malformed_rejected;
}
raised GpduForwarded s = record {
  gpdu_received = s.gpdu_received;
  gpdu_forwarded = saturating_add s.gpdu_forwarded 1;
  gpdu_sunk = s.gpdu_sunk;
  echo_requests_answered = s.echo_requests_answered;
  error_indications_sent = s.error_indications_sent;
  malformed_rejected = s.malformed_rejected;
}
raised GpduSunk s = record {
  gpdu_received = s.gpdu_received;
  gpdu_forwarded = s.gpdu_forwarded;
  gpdu_sunk = saturating_add s.gpdu_sunk 1;
  echo_requests_answered = s.echo_requests_answered;
  error_indications_sent = s.error_indications_sent;
  malformed_rejected = s.malformed_rejected;
}
raised EchoRequestsAnswered s = record {
  gpdu_received = s.gpdu_received;
  gpdu_forwarded = s.gpdu_forwarded;
  gpdu_sunk = s.gpdu_sunk;
  echo_requests_answered = saturating_add s.echo_requests_answered 1;
  error_indications_sent = s.error_indications_sent;
  malformed_rejected = s.malformed_rejected;
}
raised ErrorIndicationsSent s = record {
  gpdu_received = s.gpdu_received;
  gpdu_forwarded = s.gpdu_forwarded;
  gpdu_sunk = s.gpdu_sunk;
  echo_requests_answered = s.echo_requests_answered;
  error_indications_sent = saturating_add s.error_indications_sent 1;
  malformed_rejected = s.malformed_rejected;
}
raised MalformedRejected s = record {
  gpdu_received = s.gpdu_received;
  gpdu_forwarded = s.gpdu_forwarded;
  gpdu_sunk = s.gpdu_sunk;
  echo_requests_answered = s.echo_requests_answered;
  error_indications_sent = s.error_indications_sent;
  malformed_rejected = saturating_add s.malformed_rejected 1;
}

abbrev pub count : ReflectorCounter → GtpuReflector → GtpuReflector
count counter r = record {
  sessions = r.sessions;
  max_sessions = r.max_sessions;
  recovery_counter = r.recovery_counter;
  policy = r.policy;
  stats = raised counter r.stats;
  next_error_sequence = r.next_error_sequence;
}

-- lines 410 to 414: `wrapping_add(1).max(1)`, of a u16
unfoldable pub take_error_sequence : GtpuReflector → Called ℕ
take_error_sequence r = record {
  result = r.next_error_sequence;
  reflector = record {
    sessions = r.sessions;
    max_sessions = r.max_sessions;
    recovery_counter = r.recovery_counter;
    policy = r.policy;
    stats = r.stats;
    next_error_sequence = max ((r.next_error_sequence + 1) % 65536) 1;
  };
}

-- lines 424 to 443
unfoldable pub error_indication_payload : ℕ → IpAddr → List ℕ
error_indication_payload offending_teid (V4 octets) =
    (16 ∷ []) ++ big_endian 4 offending_teid ++ (133 ∷ []) ++ big_endian 2 4 ++ octets
error_indication_payload offending_teid (V6 octets) =
    (16 ∷ []) ++ big_endian 4 offending_teid ++ (133 ∷ []) ++ big_endian 2 16 ++ octets

-- lines 376 to 408
unfoldable pub handle_gpdu : GtpuReflector → ReflectorSession → List ℕ → Called (Result ReflectorAction)
handle_gpdu r session tpdu =
    elim r.policy [
      | Echo ↦
          attempted (echo_tpdu tpdu) r λ echoed.
          attempted (encode_gpdu session.peer_teid echoed) r λ packet.
          record { result = Ok (Send session.peer_addr packet ReflectedGpdu); reflector = count GpduForwarded r }
      | SinkAndCount ↦ record { result = Ok (Noop G_PDU_sunk); reflector = count GpduSunk r }
      | Route target ↦
          attempted (encode_gpdu target.teid tpdu) r λ packet.
          record { result = Ok (Send target.destination packet RoutedGpdu); reflector = count GpduForwarded r }
    ]

-- lines 319 to 328
unfoldable pub unknown_teid : GtpuReflector → SocketAddr → GtpuMessage → Called (Result ReflectorAction)
unknown_teid r source message =
    let r : GtpuReflector = count ErrorIndicationsSent r in
    let sequence : Called ℕ = take_error_sequence r in
    let payload : List ℕ = error_indication_payload message.teid source.ip in
    attempted (encode_error_indication sequence.result payload) sequence.reflector λ packet.
    record { result = Ok (Send source packet ErrorIndication); reflector = sequence.reflector }

-- lines 333 to 354
unfoldable pub echo_request : GtpuReflector → SocketAddr → GtpuMessage → Called (Result ReflectorAction)
echo_request r source message =
    elim (not (message.teid == 0)) [
      | true ↦ record {
        result = Err (InvalidPacket error.Echo_Request_TEID_must_be_zero);
        reflector = count MalformedRejected r;
      }
      | false ↦
          elim message.sequence_number [
            | None ↦ record {
              result = Err (InvalidPacket error.Echo_Request_missing_sequence_number);
              reflector = count MalformedRejected r;
            }
            | Some sequence ↦
                let r : GtpuReflector = count EchoRequestsAnswered r in
                attempted (encode_echo_response sequence r.recovery_counter) r λ packet.
                record { result = Ok (Send source packet EchoResponse); reflector = r }
          ]
    ]

-- lines 355 to 373
unfoldable pub other_message : GtpuReflector → ℕ → Called (Result ReflectorAction)
other_message r message_type =
    elim (nat_eq message_type GTPU_MSG_ECHO_RESPONSE) [
      | true ↦ record { result = Ok (Noop echo_response_observed); reflector = r }
      | false ↦ elim (nat_eq message_type GTPU_MSG_ERROR_INDICATION) [
        | true ↦ record { result = Ok (Noop error_indication_observed); reflector = r }
        | false ↦ elim (nat_eq message_type GTPU_MSG_END_MARKER) [
          | true ↦ record { result = Ok (Noop end_marker_ignored); reflector = r }
          | false ↦ elim (nat_eq message_type GTPU_MSG_SUPPORTED_EXTENSION_HEADERS_NOTIFICATION) [
            | true ↦ record { result = Ok (Noop supported_extension_headers_notification_ignored); reflector = r }
            | false ↦ record {
              result = Err (InvalidPacket error.unsupported_GTP_U_message_type);
              reflector = count MalformedRejected r;
            }
          ]
        ]
      ]
    ]

-- lines 303 to 374, behind the decode: line 316 on
unfoldable pub handle_datagram : GtpuReflector → SocketAddr → GtpuMessage → Called (Result ReflectorAction)
handle_datagram r source message =
    elim (nat_eq message.message_type GTPU_MSG_GPDU) [
      | true ↦
          elim (find message.teid r.sessions) [
            | None ↦ unknown_teid r source message
            | Some session ↦ handle_gpdu (count GpduReceived r) session message.payload
          ]
      | false ↦ elim (nat_eq message.message_type GTPU_MSG_ECHO_REQUEST) [
        | true ↦ echo_request r source message
        | false ↦ other_message r message.message_type
      ]
    ]
