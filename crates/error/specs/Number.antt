-- The causes of refusal and their numbers: document 01's card, row by row, in its words; then document 02's.
-- "Added" is the card's own mark: the Rust has no such refusal.
use Rattle.std.specs.Prelude.{ℕ, List, [], ◌∷◌}

-- T-PDU empty
abbrev pub truncated_ip_header : ℕ
truncated_ip_header = 1

-- version not 4 or 6
abbrev pub unsupported_ip_version : ℕ
unsupported_ip_version = 2

-- IPv4 under 20 bytes
abbrev pub truncated_ipv4_header : ℕ
truncated_ipv4_header = 3

-- IHL under 5: "Number 4 keeps the IHL below 5" (document 02, job 3)
abbrev pub invalid_ipv4_ihl : ℕ
invalid_ipv4_ihl = 4

-- total length under IHL × 4 + 8 or past the input
abbrev pub invalid_ipv4_total_length : ℕ
invalid_ipv4_total_length = 5

-- protocol not 17
abbrev pub payload_is_not_udp : ℕ
payload_is_not_udp = 6

-- IPv4 header checksum
abbrev pub invalid_ipv4_header_checksum : ℕ
invalid_ipv4_header_checksum = 7

-- IPv6 under 48 bytes
abbrev pub truncated_ipv6_udp_packet : ℕ
truncated_ipv6_udp_packet = 8

-- payload length under 8 or past the input
abbrev pub invalid_ipv6_payload_length : ℕ
invalid_ipv6_payload_length = 9

-- UDP length under 8 or past its part
abbrev pub invalid_udp_length : ℕ
invalid_udp_length = 10

-- IPv6 UDP checksum 0
abbrev pub ipv6_udp_checksum_is_zero : ℕ
ipv6_udp_checksum_is_zero = 11

-- UDP checksum wrong
abbrev pub invalid_udp_checksum : ℕ
invalid_udp_checksum = 12

-- probe under 24 bytes
abbrev pub truncated_measurement_header : ℕ
truncated_measurement_header = 13

-- first 8 bytes wrong
abbrev pub measurement_magic_mismatch : ℕ
measurement_magic_mismatch = 14

-- output too short (added)
abbrev pub output_too_short : ℕ
output_too_short = 15

-- rate 0
abbrev pub target_rate_is_zero : ℕ
target_rate_is_zero = 16

-- rate above 1,000,000,000
abbrev pub target_rate_exceeds_resolution : ℕ
target_rate_exceeds_resolution = 17

-- count above 2,048 (added)
abbrev pub too_many_packets : ℕ
too_many_packets = 18

-- sequence would pass its top at packet k
abbrev pub sequence_overflow : ℕ
sequence_overflow = 19

-- time would pass its top at packet k
abbrev pub send_timestamp_overflow : ℕ
send_timestamp_overflow = 20

-- used count above capacity, used rows not rising, a used row's mark not 0 or 1, a nonzero return time on an unmarked
-- used row (added)
abbrev pub malformed_observer : ℕ
malformed_observer = 21

-- new sequence, used count equals capacity (added)
abbrev pub observer_full : ℕ
observer_full = 22

-- returned sequence not on the sheet
abbrev pub sequence_was_not_sent : ℕ
sequence_was_not_sent = 23

-- returned before sent
abbrev pub timestamp_reversed : ℕ
timestamp_reversed = 24

-- element cut
abbrev pub truncated_element : ℕ
truncated_element = 25

-- 133 of other length
abbrev pub invalid_peer_address_length : ℕ
invalid_peer_address_length = 26

-- type under 128, not 16
abbrev pub unsupported_fixed_length_element : ℕ
unsupported_fixed_length_element = 27

-- no 16
abbrev pub missing_teid_data_i : ℕ
missing_teid_data_i = 28

-- no 133
abbrev pub missing_peer_address : ℕ
missing_peer_address = 29

-- maximum 0 or above 4,096
abbrev pub invalid_reflector_capacity : ℕ
invalid_reflector_capacity = 30

-- used above maximum or slice shorter than maximum (added)
abbrev pub malformed_reflector_table : ℕ
malformed_reflector_table = 31

-- TEID or port 0
abbrev pub invalid_reflector_session : ℕ
invalid_reflector_session = 32

-- other record with this local TEID
abbrev pub reflector_session_conflict : ℕ
reflector_session_conflict = 33

-- used equals maximum
abbrev pub reflector_session_capacity_exceeded : ℕ
reflector_session_capacity_exceeded = 34

-- Echo Request TEID not 0
abbrev pub echo_request_teid_not_zero : ℕ
echo_request_teid_not_zero = 35

-- Echo Request with no sequence
abbrev pub echo_request_missing_sequence : ℕ
echo_request_missing_sequence = 36

-- other message type
abbrev pub unsupported_message_type : ℕ
unsupported_message_type = 37

-- fragment: more-fragments flag set, or fragment offset not 0 (document 02, job 1)
abbrev pub ipv4_fragment : ℕ
ipv4_fragment = 38

-- input shorter than IHL × 4 + 8 bytes (document 02, job 3)
abbrev pub truncated_ipv4_udp_packet : ℕ
truncated_ipv4_udp_packet = 39

-- all of them, in the order of the numbers
abbrev pub numbers_of : List ℕ
numbers_of =
    truncated_ip_header
    ∷ unsupported_ip_version
    ∷ truncated_ipv4_header
    ∷ invalid_ipv4_ihl
    ∷ invalid_ipv4_total_length
    ∷ payload_is_not_udp
    ∷ invalid_ipv4_header_checksum
    ∷ truncated_ipv6_udp_packet
    ∷ invalid_ipv6_payload_length
    ∷ invalid_udp_length
    ∷ ipv6_udp_checksum_is_zero
    ∷ invalid_udp_checksum
    ∷ truncated_measurement_header
    ∷ measurement_magic_mismatch
    ∷ output_too_short
    ∷ target_rate_is_zero
    ∷ target_rate_exceeds_resolution
    ∷ too_many_packets
    ∷ sequence_overflow
    ∷ send_timestamp_overflow
    ∷ malformed_observer
    ∷ observer_full
    ∷ sequence_was_not_sent
    ∷ timestamp_reversed
    ∷ truncated_element
    ∷ invalid_peer_address_length
    ∷ unsupported_fixed_length_element
    ∷ missing_teid_data_i
    ∷ missing_peer_address
    ∷ invalid_reflector_capacity
    ∷ malformed_reflector_table
    ∷ invalid_reflector_session
    ∷ reflector_session_conflict
    ∷ reflector_session_capacity_exceeded
    ∷ echo_request_teid_not_zero
    ∷ echo_request_missing_sequence
    ∷ unsupported_message_type
    ∷ ipv4_fragment
    ∷ truncated_ipv4_udp_packet
    ∷ []
