-- Reading a T-PDU: document 01, leaf 4. Each cause of refusal is a row, and the rows stand in the order of that leaf,
-- "IPv4 3, 4, 5, 6, 7, 10, 12, 13, 14; IPv6 8, 6, 9, 11, 12, 10, 13, 14. Number 1, then 2, come before both.", as
-- document 02 has changed it: 39 stands "directly after 4" (job 3) and 38 "directly after 7" (job 1), and "In IPv6 the
-- order becomes 10, 11, 12" (job 6).
use Rattle.std.specs.Prelude.{ℕ, ◌+◌, ◌-◌, ◌*◌, ◌/◌, ◌%◌, ◌^◌, List, [], ◌∷◌, ◌++◌, Bool, true, false, not, ◌||◌, ◌&&◌, eqb, ltb, length, take, drop, get_or}
use Rattle.error.specs.Number.{truncated_ip_header, unsupported_ip_version, truncated_ipv4_header, invalid_ipv4_ihl}
use Rattle.error.specs.Number.{invalid_ipv4_total_length, payload_is_not_udp, invalid_ipv4_header_checksum}
use Rattle.error.specs.Number.{truncated_ipv6_udp_packet, invalid_ipv6_payload_length, invalid_udp_length}
use Rattle.error.specs.Number.{ipv6_udp_checksum_is_zero, invalid_udp_checksum, truncated_measurement_header}
use Rattle.error.specs.Number.{measurement_magic_mismatch, truncated_ipv4_udp_packet, ipv4_fragment}
use Rattle.error.specs.Outcome.{Outcome, gives, Cause, ◌⇒◌, first_cause}
use Rattle.field.specs.Field.{value_of, bytes_at, field}
use Rattle.checksum.specs.Sum.{checksum_of}
use Rattle.measurement.specs.Layout.{ip_version, ipv4_ihl, ipv4_total_length, ipv4_flags_and_fragment_offset, ipv4_protocol}
use Rattle.measurement.specs.Layout.{ipv4_source_address, ipv4_destination_address, ipv4_header_bytes}
use Rattle.measurement.specs.Layout.{ipv6_payload_length, ipv6_next_header, ipv6_source_address, ipv6_destination_address}
use Rattle.measurement.specs.Layout.{ipv6_header_bytes, udp_source_port, udp_destination_port, udp_length, udp_checksum}
use Rattle.measurement.specs.Layout.{udp_header_bytes, probe_tag, probe_sequence, probe_send_time, probe_bytes}
use Rattle.measurement.specs.Pseudo.{pseudo_header, udp_protocol}
use Rattle.measurement.specs.Probe.{measurement_magic}
use Rattle.measurement.specs.Flow.{padded}
use Rattle.measurement.specs.declared.DecodedTpdu.{DecodedTpdu}
use Rattle.measurement.specs.declared.IpVersion.{IpVersion}
use Rattle.measurement.specs.declared.IpVersion.TheVariants.{V4, V6}

-- RFC 768: the length field counts header and data, so the payload has that many bytes less the 8 of the header.
unfoldable pub payload : List ℕ → List ℕ
payload part = take (field 2 udp_length part - udp_header_bytes) (drop udp_header_bytes part)

-- "UDP length under 8 or past its part"
unfoldable pub length_wrong : List ℕ → Bool
length_wrong part = ltb (field 2 udp_length part) udp_header_bytes || ltb (length part) (field 2 udp_length part)

-- Which bytes of its part the UDP checksum covers: as many as the UDP length says. What stands behind them is padding.
unfoldable pub covered : List ℕ → List ℕ
covered part = take (field 2 udp_length part) part

-- "RFC 768 and RFC 8200 section 8.1 take the UDP header's own length for the pseudo-header, and the sum over that many
-- bytes" (document 02, job 6): that sum is not right.
unfoldable pub sum_wrong : IpVersion → List ℕ → List ℕ → List ℕ → Bool
sum_wrong v source destination part =
    not (eqb (checksum_of (pseudo_header v source destination (field 2 udp_length part) ++ covered part)) 0)

-- "probe under 24 bytes; first 8 bytes wrong"
unfoldable pub probe_causes : List ℕ → List Cause
probe_causes probe =
    (ltb (length probe) probe_bytes ⇒ truncated_measurement_header)
    ∷ (not (eqb (field 8 probe_tag probe) (value_of measurement_magic)) ⇒ measurement_magic_mismatch)
    ∷ []

-- RFC 768: a checksum field of 0 "means that the transmitter generated no checksum".
abbrev pub unsummed : List ℕ → Bool
unsummed part = eqb (field 2 udp_checksum part) 0

-- "An IPv4 UDP checksum field of 0 is not verified; in IPv6 it is refused."
abbrev pub must_be_summed : IpVersion → Bool
must_be_summed V4 = false
must_be_summed V6 = true

-- One list for both versions; in IPv4 the second row holds of no part.
unfoldable pub udp_causes : IpVersion → List ℕ → List ℕ → List ℕ → List Cause
udp_causes v source destination part =
    (length_wrong part ⇒ invalid_udp_length)
    ∷ (unsummed part && must_be_summed v ⇒ ipv6_udp_checksum_is_zero)
    ∷ (not (unsummed part) && sum_wrong v source destination part ⇒ invalid_udp_checksum)
    ∷ []

-- The T-PDU with these values: the flow, its addresses padded to 16 bytes, the sequence and the send time.
abbrev pub tpdu_with : IpVersion → List ℕ → List ℕ → ℕ → ℕ → ℕ → ℕ → DecodedTpdu
tpdu_with v source destination source_port destination_port sequence time = record {
  flow = record {
    version = v;
    src = padded source;
    dst = padded destination;
    src_port = source_port;
    dst_port = destination_port;
  };
  measurement = record { sequence = sequence; send_timestamp_ns = time };
}

-- What a part gives, where it is not refused: the values that stand in it.
abbrev pub tpdu_of : IpVersion → List ℕ → List ℕ → List ℕ → DecodedTpdu
tpdu_of v source destination part =
    tpdu_with v source destination (field 2 udp_source_port part) (field 2 udp_destination_port part)
    (field 8 probe_sequence (payload part)) (field 8 probe_send_time (payload part))

unfoldable pub read_probe : IpVersion → List ℕ → List ℕ → List ℕ → Outcome DecodedTpdu
read_probe v source destination part =
    first_cause (probe_causes (payload part)) (gives (tpdu_of v source destination part))

-- The part that stands behind the IP header, for both versions.
unfoldable pub read_udp : IpVersion → List ℕ → List ℕ → List ℕ → Outcome DecodedTpdu
read_udp v source destination part =
    first_cause (udp_causes v source destination part) (read_probe v source destination part)

-- RFC 791, section 3.1: the header's length in 32-bit words.
unfoldable pub ihl : List ℕ → ℕ
ihl tpdu = get_or tpdu ipv4_ihl 0 % 16

abbrev pub total_length : List ℕ → ℕ
total_length tpdu = field 2 ipv4_total_length tpdu

-- RFC 791, section 3.1: of these 16 bits the first three are flags, which are reserved, Don't Fragment and More
-- Fragments, and the other 13 are the Fragment Offset.
abbrev pub more_fragments : List ℕ → ℕ
more_fragments tpdu = field 2 ipv4_flags_and_fragment_offset tpdu / 2 ^ 13 % 2

abbrev pub fragment_offset : List ℕ → ℕ
fragment_offset tpdu = field 2 ipv4_flags_and_fragment_offset tpdu % 2 ^ 13

-- "a packet with the more-fragments flag set or a fragment offset other than 0 (RFC 791)" (document 02, job 1)
unfoldable pub is_fragment : List ℕ → Bool
is_fragment tpdu = eqb (more_fragments tpdu) 1 || not (eqb (fragment_offset tpdu) 0)

-- "IPv4 under 20 bytes"; "IHL below 5", then "input shorter than IHL × 4 + 8 bytes" (document 02, job 3); "total length
-- under IHL × 4 + 8 or past the input; protocol not 17; IPv4 header checksum"; "fragment" (document 02, job 1)
unfoldable pub ipv4_causes : List ℕ → List Cause
ipv4_causes tpdu =
    (ltb (length tpdu) ipv4_header_bytes ⇒ truncated_ipv4_header)
    ∷ (ltb (ihl tpdu) 5 ⇒ invalid_ipv4_ihl)
    ∷ (ltb (length tpdu) (ihl tpdu * 4 + udp_header_bytes) ⇒ truncated_ipv4_udp_packet)
    ∷ (ltb (total_length tpdu) (ihl tpdu * 4 + udp_header_bytes) || ltb (length tpdu) (total_length tpdu)
    ⇒ invalid_ipv4_total_length)
    ∷ (not (eqb (get_or tpdu ipv4_protocol 0) udp_protocol) ⇒ payload_is_not_udp)
    ∷ (not (eqb (checksum_of (take (ihl tpdu * 4) tpdu)) 0) ⇒ invalid_ipv4_header_checksum)
    ∷ (is_fragment tpdu ⇒ ipv4_fragment)
    ∷ []

-- "IPv4 options are stepped over: the part from IHL × 4 to total length is handed to the UDP reader. Bytes past the
-- total length are ignored".
unfoldable pub read_ipv4 : List ℕ → Outcome DecodedTpdu
read_ipv4 tpdu =
    first_cause (ipv4_causes tpdu)
    (read_udp V4 (bytes_at 4 ipv4_source_address tpdu) (bytes_at 4 ipv4_destination_address tpdu)
    (take (total_length tpdu - ihl tpdu * 4) (drop (ihl tpdu * 4) tpdu)))

abbrev pub payload_length : List ℕ → ℕ
payload_length tpdu = field 2 ipv6_payload_length tpdu

-- "IPv6 under 48 bytes; payload length under 8 or past the input", with 6 before 9
unfoldable pub ipv6_causes : List ℕ → List Cause
ipv6_causes tpdu =
    (ltb (length tpdu) (ipv6_header_bytes + udp_header_bytes) ⇒ truncated_ipv6_udp_packet)
    ∷ (not (eqb (get_or tpdu ipv6_next_header 0) udp_protocol) ⇒ payload_is_not_udp)
    ∷ (ltb (payload_length tpdu) udp_header_bytes || ltb (length tpdu) (payload_length tpdu + ipv6_header_bytes)
    ⇒ invalid_ipv6_payload_length)
    ∷ []

unfoldable pub read_ipv6 : List ℕ → Outcome DecodedTpdu
read_ipv6 tpdu =
    first_cause (ipv6_causes tpdu)
    (read_udp V6 (bytes_at 16 ipv6_source_address tpdu) (bytes_at 16 ipv6_destination_address tpdu)
    (take (payload_length tpdu) (drop ipv6_header_bytes tpdu)))

-- "The upper four bits of byte 0 choose the reader."
abbrev pub version_of : List ℕ → ℕ
version_of tpdu = get_or tpdu ip_version 0 / 16

-- "T-PDU empty; version not 4 or 6"
unfoldable pub tpdu_causes : List ℕ → List Cause
tpdu_causes tpdu =
    (eqb (length tpdu) 0 ⇒ truncated_ip_header)
    ∷ (not (eqb (version_of tpdu) 4) && not (eqb (version_of tpdu) 6) ⇒ unsupported_ip_version)
    ∷ []

unfoldable pub read_of : List ℕ → Outcome DecodedTpdu
read_of tpdu =
    first_cause (tpdu_causes tpdu) (elim (eqb (version_of tpdu) 4) [ true ↦ read_ipv4 tpdu | false ↦ read_ipv6 tpdu ])
