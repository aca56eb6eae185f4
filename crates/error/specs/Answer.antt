-- What a call's answer says: the value that it gives, or by which number it refuses.
use Rattle.std.specs.Prelude.{ℕ, Result, Ok, Err}
use Rattle.error.specs.Number.{truncated_ip_header, unsupported_ip_version, truncated_ipv4_header, invalid_ipv4_ihl}
use Rattle.error.specs.Number.{invalid_ipv4_total_length, payload_is_not_udp, invalid_ipv4_header_checksum}
use Rattle.error.specs.Number.{truncated_ipv6_udp_packet, invalid_ipv6_payload_length, invalid_udp_length}
use Rattle.error.specs.Number.{ipv6_udp_checksum_is_zero, invalid_udp_checksum, truncated_measurement_header}
use Rattle.error.specs.Number.{measurement_magic_mismatch, output_too_short, target_rate_is_zero}
use Rattle.error.specs.Number.{target_rate_exceeds_resolution, too_many_packets, sequence_overflow}
use Rattle.error.specs.Number.{send_timestamp_overflow, malformed_observer, observer_full, sequence_was_not_sent}
use Rattle.error.specs.Number.{timestamp_reversed, truncated_element, invalid_peer_address_length}
use Rattle.error.specs.Number.{unsupported_fixed_length_element, missing_teid_data_i, missing_peer_address}
use Rattle.error.specs.Number.{invalid_reflector_capacity, malformed_reflector_table, invalid_reflector_session}
use Rattle.error.specs.Number.{reflector_session_conflict, reflector_session_capacity_exceeded}
use Rattle.error.specs.Number.{echo_request_teid_not_zero, echo_request_missing_sequence, unsupported_message_type}
use Rattle.error.specs.Number.{ipv4_fragment, truncated_ipv4_udp_packet}
use Rattle.error.specs.Outcome.{Outcome, refused, gives}
use Rattle.error.specs.declared.Refusal.{Refusal}
use Rattle.error.specs.declared.Refusal.TheVariants as refusal

-- The number of each refusal on the card.
abbrev pub number_of : Refusal → ℕ
number_of refusal.TruncatedIpHeader = truncated_ip_header
number_of refusal.UnsupportedIpVersion = unsupported_ip_version
number_of refusal.TruncatedIpv4Header = truncated_ipv4_header
number_of refusal.InvalidIpv4Ihl = invalid_ipv4_ihl
number_of refusal.InvalidIpv4TotalLength = invalid_ipv4_total_length
number_of refusal.PayloadIsNotUdp = payload_is_not_udp
number_of refusal.InvalidIpv4HeaderChecksum = invalid_ipv4_header_checksum
number_of refusal.TruncatedIpv6UdpPacket = truncated_ipv6_udp_packet
number_of refusal.InvalidIpv6PayloadLength = invalid_ipv6_payload_length
number_of refusal.InvalidUdpLength = invalid_udp_length
number_of refusal.Ipv6UdpChecksumIsZero = ipv6_udp_checksum_is_zero
number_of refusal.InvalidUdpChecksum = invalid_udp_checksum
number_of refusal.TruncatedMeasurementHeader = truncated_measurement_header
number_of refusal.MeasurementMagicMismatch = measurement_magic_mismatch
number_of refusal.OutputTooShort = output_too_short
number_of refusal.TargetRateIsZero = target_rate_is_zero
number_of refusal.TargetRateExceedsResolution = target_rate_exceeds_resolution
number_of refusal.TooManyPackets = too_many_packets
number_of refusal.SequenceOverflow = sequence_overflow
number_of refusal.SendTimestampOverflow = send_timestamp_overflow
number_of refusal.MalformedObserver = malformed_observer
number_of refusal.ObserverFull = observer_full
number_of refusal.SequenceWasNotSent = sequence_was_not_sent
number_of refusal.TimestampReversed = timestamp_reversed
number_of refusal.TruncatedElement = truncated_element
number_of refusal.InvalidPeerAddressLength = invalid_peer_address_length
number_of refusal.UnsupportedFixedLengthElement = unsupported_fixed_length_element
number_of refusal.MissingTeidDataI = missing_teid_data_i
number_of refusal.MissingPeerAddress = missing_peer_address
number_of refusal.InvalidReflectorCapacity = invalid_reflector_capacity
number_of refusal.MalformedReflectorTable = malformed_reflector_table
number_of refusal.InvalidReflectorSession = invalid_reflector_session
number_of refusal.ReflectorSessionConflict = reflector_session_conflict
number_of refusal.ReflectorSessionCapacityExceeded = reflector_session_capacity_exceeded
number_of refusal.EchoRequestTeidNotZero = echo_request_teid_not_zero
number_of refusal.EchoRequestMissingSequence = echo_request_missing_sequence
number_of refusal.UnsupportedMessageType = unsupported_message_type
number_of refusal.Ipv4Fragment = ipv4_fragment
number_of refusal.TruncatedIpv4UdpPacket = truncated_ipv4_udp_packet

-- What an answer says. Every call of the code that can refuse answers so.
abbrev pub answered : {A : Type 0} → Result A Refusal → Outcome A
answered (Ok x) = gives x
answered (Err r) = refused (number_of r)
