-- The Rust's gtpu.rs: the message types, lines 15 to 26, the messages that the reflector sends, lines 46 to 106, and
-- `validate_error_indication_ies`, lines 109 to 189. Offsets are `usize` there, and every `checked_add` succeeds: at
-- most 65,538 is added to an offset within the payload, and a slice has fewer than 2^63 bytes.
use Rattle.std.specs.Prelude.{ℕ, zero, suc, ◌+◌, Bool, true, false, not, ◌&&◌, List, [], ◌∷◌, length, ◌==◌, nat_le, nat_lt}
use Rattle.rust_reference.specs.Map.{Option, None, Some}
use Rattle.rust_reference.specs.Values.{index, u16_at}
use Rattle.rust_reference.specs.Error.{Result, Ok, Truncated, InvalidPacket, GtpuEncode, Err, return_if, ◌>>◌}
use Rattle.rust_reference.specs.Error.{TEID_Data_I_IE, GTP_U_Peer_Address_IE, GTP_U_TLV_IE}
use Rattle.rust_reference.specs.Error.{GTP_U_Peer_Address_IE_length_must_be_IPv4_or_IPv6}
use Rattle.rust_reference.specs.Error.{unsupported_fixed_length_GTP_U_IE, Error_Indication_missing_TEID_Data_I_IE}
use Rattle.rust_reference.specs.Error.{Error_Indication_missing_GTP_U_Peer_Address_IE}

abbrev pub GTPU_MSG_ECHO_REQUEST : ℕ
GTPU_MSG_ECHO_REQUEST = 1

abbrev pub GTPU_MSG_ECHO_RESPONSE : ℕ
GTPU_MSG_ECHO_RESPONSE = 2

abbrev pub GTPU_MSG_ERROR_INDICATION : ℕ
GTPU_MSG_ERROR_INDICATION = 26

abbrev pub GTPU_MSG_SUPPORTED_EXTENSION_HEADERS_NOTIFICATION : ℕ
GTPU_MSG_SUPPORTED_EXTENSION_HEADERS_NOTIFICATION = 31

abbrev pub GTPU_MSG_END_MARKER : ℕ
GTPU_MSG_END_MARKER = 254

abbrev pub GTPU_MSG_GPDU : ℕ
GTPU_MSG_GPDU = 255

-- A message, with the three header fields that the reflector reads and writes. The codec is not among the sources, so a
-- datagram is the message that `decode_gtpu` makes of it, and `encode_message` answers the message that it encodes.
pub record GtpuMessage : Type 0 where
  pub message_type : ℕ
  pub teid : ℕ
  pub sequence_number : Option ℕ
  pub payload : List ℕ

-- lines 191 to 227. In the codec's place is document 01's stand-in, which carries "a payload of at most 65,535 bytes"
-- and refuses a longer one.
abbrev pub encode_message : ℕ → ℕ → Option ℕ → List ℕ → Result GtpuMessage
encode_message message_type teid sequence_number payload = do
  return_if (nat_lt 65535 (length payload)) GtpuEncode
  Ok (record { message_type = message_type; teid = teid; sequence_number = sequence_number; payload = payload })

-- lines 47 to 49
abbrev pub encode_gpdu : ℕ → List ℕ → Result GtpuMessage
encode_gpdu teid tpdu = encode_message GTPU_MSG_GPDU teid None tpdu

-- lines 80 to 92
abbrev pub encode_echo_response : ℕ → ℕ → Result GtpuMessage
encode_echo_response sequence_number recovery_counter =
    encode_message GTPU_MSG_ECHO_RESPONSE 0 (Some sequence_number) (14 ∷ recovery_counter ∷ [])

-- lines 94 to 106
abbrev pub encode_error_indication : ℕ → List ℕ → Result GtpuMessage
encode_error_indication sequence_number payload =
    encode_message GTPU_MSG_ERROR_INDICATION 0 (Some sequence_number) payload

-- lines 178 to 188: behind the loop
unfoldable pub required_ies : Bool → Bool → Result (Unit {0})
required_ies has_teid_data has_peer_address = do
  return_if (not has_teid_data) (InvalidPacket Error_Indication_missing_TEID_Data_I_IE)
  return_if (not has_peer_address) (InvalidPacket Error_Indication_missing_GTP_U_Peer_Address_IE)
  Ok tt

-- lines 114 to 176: `while offset < payload.len()`, with a bound on the turns: the payload's length will do, since each
-- turn raises the offset.
unfoldable pub while_ies : ℕ → List ℕ → ℕ → Bool → Bool → Result (Unit {0})
while_ies zero payload offset has_teid_data has_peer_address = required_ies has_teid_data has_peer_address
while_ies (suc turns) payload offset has_teid_data has_peer_address =
    elim (nat_lt offset (length payload)) [
      | false ↦ required_ies has_teid_data has_peer_address
      | true ↦
          let ie_type : ℕ = index payload offset in
          elim (ie_type == 16) [
            | true ↦ do
              let end : ℕ = offset + 1 + 4
              return_if (nat_lt (length payload) end) (Truncated TEID_Data_I_IE)
              while_ies turns payload end true has_peer_address
            | false ↦
                elim (ie_type == 133) [
                  | true ↦ do
                    let len_end : ℕ = offset + 1 + 2
                    return_if (nat_lt (length payload) len_end) (Truncated GTP_U_Peer_Address_IE)
                    let len : ℕ = u16_at payload (offset + 1)
                    return_if (not (len == 4) && not (len == 16))
                        (InvalidPacket GTP_U_Peer_Address_IE_length_must_be_IPv4_or_IPv6)
                    let value_end : ℕ = len_end + len
                    return_if (nat_lt (length payload) value_end) (Truncated GTP_U_Peer_Address_IE)
                    while_ies turns payload value_end has_teid_data true
                  | false ↦
                      elim (nat_le 128 ie_type) [
                        | true ↦ do
                          let len_end : ℕ = offset + 1 + 2
                          return_if (nat_lt (length payload) len_end) (Truncated GTP_U_TLV_IE)
                          let end : ℕ = len_end + u16_at payload (offset + 1)
                          return_if (nat_lt (length payload) end) (Truncated GTP_U_TLV_IE)
                          while_ies turns payload end has_teid_data has_peer_address
                        | false ↦ Err (InvalidPacket unsupported_fixed_length_GTP_U_IE)
                      ]
                ]
          ]
    ]

unfoldable pub validate_error_indication_ies : List ℕ → Result (Unit {0})
validate_error_indication_ies payload = while_ies (length payload) payload 0 false false
