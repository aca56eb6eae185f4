-- The Rust's error.rs, lines 8 to 60, as far as the ported functions use it, and `Result`. A text is a constructor,
-- with underscores for its spaces and hyphens.
use Rattle.std.specs.Prelude.{ℕ, Bool, true, false}

-- `Truncated { context }`
pub data Context : Type 0 where
  IP_header IPv4_header IPv6_UDP_packet UDP_header measurement_header : Context
  TEID_Data_I_IE GTP_U_Peer_Address_IE GTP_U_TLV_IE : Context

-- `InvalidPacket { reason }`
pub data Reason : Type 0 where
  measurement_magic_mismatch : Reason
  invalid_IPv4_IHL invalid_IPv4_total_length IPv4_payload_is_not_UDP : Reason
  invalid_IPv4_header_checksum invalid_IPv4_UDP_checksum : Reason
  IPv6_payload_is_not_UDP invalid_IPv6_payload_length IPv6_UDP_checksum_is_zero invalid_IPv6_UDP_checksum : Reason
  invalid_UDP_length : Reason
  target_rate_must_be_non_zero target_rate_exceeds_nanosecond_timestamp_resolution : Reason
  received_sequence_was_not_sent unsupported_GTP_U_return_message_type : Reason
  GTP_U_Peer_Address_IE_length_must_be_IPv4_or_IPv6 unsupported_fixed_length_GTP_U_IE : Reason
  Error_Indication_missing_TEID_Data_I_IE Error_Indication_missing_GTP_U_Peer_Address_IE : Reason
  Echo_Request_TEID_must_be_zero Echo_Request_missing_sequence_number unsupported_GTP_U_message_type : Reason

-- `Overflow { field }`
pub data Field : Type 0 where
  udp_len ipv4_total_len sequence send_timestamp_ns : Field

pub data DataplaneTestkitError : Type 0 where
  Truncated : Context → DataplaneTestkitError
  UnsupportedIpVersion : ℕ → DataplaneTestkitError
  InvalidPacket : Reason → DataplaneTestkitError
  Overflow : Field → DataplaneTestkitError
  TimestampReversed : DataplaneTestkitError
  -- `GtpuEncode(String)`: the text is the codec's, which is not among the sources
  GtpuEncode : DataplaneTestkitError
  InvalidReflectorCapacity InvalidReflectorSession : DataplaneTestkitError
  ReflectorSessionConflict ReflectorSessionCapacityExceeded : DataplaneTestkitError

-- `Result<A, DataplaneTestkitError>`
pub data Result (A : Type 0) : Type 0 where
  Ok : A → Result A
  Err : DataplaneTestkitError → Result A

-- The operator `?`: `x ← e` is `let x = e?`.
abbrev pub ◌>>=◌ : {A B : Type 0} → Result A → (A → Result B) → Result B
◌>>=◌ (Ok x) rest = rest x
◌>>=◌ (Err e) rest = Err e

abbrev pub ◌>>◌ : {A B : Type 0} → Result A → Result B → Result B
◌>>◌ (Ok x) rest = rest
◌>>◌ (Err e) rest = Err e

-- `if test { return Err(error); }`
abbrev pub return_if : Bool → DataplaneTestkitError → Result (Unit {0})
return_if true error = Err error
return_if false error = Ok tt
