-- Each of the Rust's error values as document 01's number ("Text reasons become numbers").
use Rattle.std.specs.Prelude.{ℕ}
use Rattle.error.specs.Number.{truncated_ip_header, unsupported_ip_version, truncated_ipv4_header, invalid_ipv4_ihl}
use Rattle.error.specs.Number.{invalid_ipv4_total_length, payload_is_not_udp, invalid_ipv4_header_checksum}
use Rattle.error.specs.Number.{truncated_ipv6_udp_packet, invalid_ipv6_payload_length, invalid_udp_length}
use Rattle.error.specs.Number.{ipv6_udp_checksum_is_zero, invalid_udp_checksum, truncated_measurement_header}
use Rattle.error.specs.Number.{measurement_magic_mismatch, target_rate_is_zero, target_rate_exceeds_resolution}
use Rattle.error.specs.Number.{sequence_overflow, send_timestamp_overflow, sequence_was_not_sent, timestamp_reversed}
use Rattle.error.specs.Number.{truncated_element, invalid_peer_address_length, unsupported_fixed_length_element}
use Rattle.error.specs.Number.{missing_teid_data_i, missing_peer_address, invalid_reflector_capacity, invalid_reflector_session}
use Rattle.error.specs.Number.{reflector_session_conflict, reflector_session_capacity_exceeded, echo_request_teid_not_zero}
use Rattle.error.specs.Number.{echo_request_missing_sequence, unsupported_message_type}
use Rattle.error.specs.Outcome.{Outcome, refused, gives}
use Rattle.rust_reference.specs.Error as rust
use Rattle.rust_reference.specs.Error.{Context, Reason, Field, DataplaneTestkitError, Result, Truncated}
use Rattle.rust_reference.specs.Error.{UnsupportedIpVersion, InvalidPacket, Overflow, TimestampReversed}
use Rattle.rust_reference.specs.Error.{GtpuEncode, InvalidReflectorCapacity, InvalidReflectorSession}
use Rattle.rust_reference.specs.Error.{ReflectorSessionConflict, ReflectorSessionCapacityExceeded, Ok, Err}

-- An error that the Rust has and does not return for input that is compared. The card has no number 0, so each claim
-- also says that it does not occur.
abbrev pub not_on_the_card : ℕ
not_on_the_card = 0

abbrev pub truncated_number : Context → ℕ
truncated_number rust.IP_header = truncated_ip_header
truncated_number rust.IPv4_header = truncated_ipv4_header
truncated_number rust.IPv6_UDP_packet = truncated_ipv6_udp_packet
truncated_number rust.UDP_header = not_on_the_card
truncated_number rust.measurement_header = truncated_measurement_header
truncated_number rust.TEID_Data_I_IE = truncated_element
truncated_number rust.GTP_U_Peer_Address_IE = truncated_element
truncated_number rust.GTP_U_TLV_IE = truncated_element

abbrev pub invalid_number : Reason → ℕ
invalid_number rust.measurement_magic_mismatch = measurement_magic_mismatch
invalid_number rust.invalid_IPv4_IHL = invalid_ipv4_ihl
invalid_number rust.invalid_IPv4_total_length = invalid_ipv4_total_length
invalid_number rust.IPv4_payload_is_not_UDP = payload_is_not_udp
invalid_number rust.invalid_IPv4_header_checksum = invalid_ipv4_header_checksum
invalid_number rust.invalid_IPv4_UDP_checksum = invalid_udp_checksum
invalid_number rust.IPv6_payload_is_not_UDP = payload_is_not_udp
invalid_number rust.invalid_IPv6_payload_length = invalid_ipv6_payload_length
invalid_number rust.IPv6_UDP_checksum_is_zero = ipv6_udp_checksum_is_zero
invalid_number rust.invalid_IPv6_UDP_checksum = invalid_udp_checksum
invalid_number rust.invalid_UDP_length = invalid_udp_length
invalid_number rust.target_rate_must_be_non_zero = target_rate_is_zero
invalid_number rust.target_rate_exceeds_nanosecond_timestamp_resolution = target_rate_exceeds_resolution
invalid_number rust.received_sequence_was_not_sent = sequence_was_not_sent
invalid_number rust.unsupported_GTP_U_return_message_type = unsupported_message_type
invalid_number rust.GTP_U_Peer_Address_IE_length_must_be_IPv4_or_IPv6 = invalid_peer_address_length
invalid_number rust.unsupported_fixed_length_GTP_U_IE = unsupported_fixed_length_element
invalid_number rust.Error_Indication_missing_TEID_Data_I_IE = missing_teid_data_i
invalid_number rust.Error_Indication_missing_GTP_U_Peer_Address_IE = missing_peer_address
invalid_number rust.Echo_Request_TEID_must_be_zero = echo_request_teid_not_zero
invalid_number rust.Echo_Request_missing_sequence_number = echo_request_missing_sequence
invalid_number rust.unsupported_GTP_U_message_type = unsupported_message_type

abbrev pub overflow_number : Field → ℕ
overflow_number rust.udp_len = not_on_the_card
overflow_number rust.ipv4_total_len = not_on_the_card
overflow_number rust.sequence = sequence_overflow
overflow_number rust.send_timestamp_ns = send_timestamp_overflow

abbrev pub error_number : DataplaneTestkitError → ℕ
error_number (Truncated context) = truncated_number context
error_number (UnsupportedIpVersion version) = unsupported_ip_version
error_number (InvalidPacket reason) = invalid_number reason
error_number (Overflow field) = overflow_number field
error_number TimestampReversed = timestamp_reversed
error_number GtpuEncode = not_on_the_card
error_number InvalidReflectorCapacity = invalid_reflector_capacity
error_number InvalidReflectorSession = invalid_reflector_session
error_number ReflectorSessionConflict = reflector_session_conflict
error_number ReflectorSessionCapacityExceeded = reflector_session_capacity_exceeded

-- A result of the Rust as an outcome, its value in document 01's terms.
abbrev pub outcome_by : {A B : Type 0} → (A → B) → Result A → Outcome B
outcome_by value (Ok x) = gives (value x)
outcome_by value (Err error) = refused (error_number error)

-- `outcome_by` where the value needs no change
abbrev pub outcome_of : {A : Type 0} → Result A → Outcome A
outcome_of result = outcome_by (λ x. x) result
