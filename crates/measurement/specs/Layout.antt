-- Where each field of a T-PDU starts, in bytes from the front of its own header. The constants of src/layout.rt have
-- the same names: `offsets_of` lists the values; `offsets` proves that the constants have them.
use Rattle.std.specs.Prelude.{ℕ, List, [], ◌∷◌}

-- Either IP header: the upper four bits of the first byte.
abbrev pub ip_version : ℕ
ip_version = 0

-- RFC 791, section 3.1. The IHL is the lower four bits of the same byte.
abbrev pub ipv4_ihl : ℕ
ipv4_ihl = 0

abbrev pub ipv4_type_of_service : ℕ
ipv4_type_of_service = 1

abbrev pub ipv4_total_length : ℕ
ipv4_total_length = 2

abbrev pub ipv4_identification : ℕ
ipv4_identification = 4

abbrev pub ipv4_flags_and_fragment_offset : ℕ
ipv4_flags_and_fragment_offset = 6

abbrev pub ipv4_time_to_live : ℕ
ipv4_time_to_live = 8

abbrev pub ipv4_protocol : ℕ
ipv4_protocol = 9

abbrev pub ipv4_header_checksum : ℕ
ipv4_header_checksum = 10

abbrev pub ipv4_source_address : ℕ
ipv4_source_address = 12

abbrev pub ipv4_destination_address : ℕ
ipv4_destination_address = 16

-- of a header without options
abbrev pub ipv4_header_bytes : ℕ
ipv4_header_bytes = 20

-- RFC 8200, section 3
abbrev pub ipv6_payload_length : ℕ
ipv6_payload_length = 4

abbrev pub ipv6_next_header : ℕ
ipv6_next_header = 6

abbrev pub ipv6_source_address : ℕ
ipv6_source_address = 8

abbrev pub ipv6_destination_address : ℕ
ipv6_destination_address = 24

abbrev pub ipv6_header_bytes : ℕ
ipv6_header_bytes = 40

-- RFC 768
abbrev pub udp_source_port : ℕ
udp_source_port = 0

abbrev pub udp_destination_port : ℕ
udp_destination_port = 2

abbrev pub udp_length : ℕ
udp_length = 4

abbrev pub udp_checksum : ℕ
udp_checksum = 6

abbrev pub udp_header_bytes : ℕ
udp_header_bytes = 8

-- Document 01: "The probe is 24 bytes: ASCII OPCDPTK1, sequence (8), send time in ns (8)."
abbrev pub probe_tag : ℕ
probe_tag = 0

abbrev pub probe_sequence : ℕ
probe_sequence = 8

abbrev pub probe_send_time : ℕ
probe_send_time = 16

abbrev pub probe_bytes : ℕ
probe_bytes = 24

abbrev pub offsets_of : List ℕ
offsets_of =
    ip_version
    ∷ ipv4_ihl
    ∷ ipv4_type_of_service
    ∷ ipv4_total_length
    ∷ ipv4_identification
    ∷ ipv4_flags_and_fragment_offset
    ∷ ipv4_time_to_live
    ∷ ipv4_protocol
    ∷ ipv4_header_checksum
    ∷ ipv4_source_address
    ∷ ipv4_destination_address
    ∷ ipv4_header_bytes
    ∷ ipv6_payload_length
    ∷ ipv6_next_header
    ∷ ipv6_source_address
    ∷ ipv6_destination_address
    ∷ ipv6_header_bytes
    ∷ udp_source_port
    ∷ udp_destination_port
    ∷ udp_length
    ∷ udp_checksum
    ∷ udp_header_bytes
    ∷ probe_tag
    ∷ probe_sequence
    ∷ probe_send_time
    ∷ probe_bytes
    ∷ []
