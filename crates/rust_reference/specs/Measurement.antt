-- The Rust's measurement.rs: `build_measurement_tpdu` (lines 153 to 163), `decode_measurement_tpdu` (166 to 175),
-- `echo_tpdu` (178 to 182) and what they call. Lengths are `usize` there, and no `checked_add` of them fails.
use Rattle.std.specs.Prelude.{ℕ, zero, suc, ◌+◌, ◌-◌, ◌*◌, ◌/◌, ◌%◌, true, false, not, ◌&&◌, ◌||◌, ltb, List, [], ◌∷◌, ◌++◌, length, drop, replicate, ◌==◌, nat_eq, nat_lt, slice_set}
use Rattle.field.specs.Field.{big_endian, value_of}
use Rattle.measurement.specs.declared.MeasurementHeader.{MeasurementHeader}
use Rattle.rust_reference.specs.Error as error
use Rattle.rust_reference.specs.Error.{Result, Ok, Err, Truncated, UnsupportedIpVersion, InvalidPacket, Overflow}
use Rattle.rust_reference.specs.Error.{return_if, ◌>>=◌, ◌>>◌}
use Rattle.rust_reference.specs.Values.{index, range, copy_from_slice, same, u16_at, wrapping_add}

-- lines 9 to 17. b"OPCDPTK1"
abbrev pub MEASUREMENT_MAGIC : List ℕ
MEASUREMENT_MAGIC = 0x4f ∷ 0x50 ∷ 0x43 ∷ 0x44 ∷ 0x50 ∷ 0x54 ∷ 0x4b ∷ 0x31 ∷ []

abbrev pub MEASUREMENT_HEADER_LEN : ℕ
MEASUREMENT_HEADER_LEN = 24

abbrev pub IPV4_HEADER_LEN : ℕ
IPV4_HEADER_LEN = 20

abbrev pub IPV6_HEADER_LEN : ℕ
IPV6_HEADER_LEN = 40

abbrev pub UDP_HEADER_LEN : ℕ
UDP_HEADER_LEN = 8

abbrev pub UDP_PROTOCOL : ℕ
UDP_PROTOCOL = 17

-- lines 21 to 44: src, dst, src_port, dst_port. An `Ipv4Addr` is its 4 octets, an `Ipv6Addr` its 16.
pub data InnerIpFlow : Type 0 where
  Ipv4 : List ℕ → List ℕ → ℕ → ℕ → InnerIpFlow
  Ipv6 : List ℕ → List ℕ → ℕ → ℕ → InnerIpFlow

-- lines 74 to 99
abbrev pub reversed : InnerIpFlow → InnerIpFlow
reversed (Ipv4 src dst src_port dst_port) = Ipv4 dst src dst_port src_port
reversed (Ipv6 src dst src_port dst_port) = Ipv6 dst src dst_port src_port

-- lines 104 to 109, `MeasurementHeader`: our struct has the same two fields. Lines 114 to 120: the array of zeros,
-- written in three places.
unfoldable pub encode : MeasurementHeader → List ℕ
encode header =
    let out : List ℕ = replicate MEASUREMENT_HEADER_LEN 0 in
    let out : List ℕ = copy_from_slice out 0 MEASUREMENT_MAGIC in
    let out : List ℕ = copy_from_slice out 8 (big_endian 8 header.sequence) in
    copy_from_slice out 16 (big_endian 8 header.send_timestamp_ns)

-- lines 123 to 140. `u64::from_be_bytes` is `value_of`.
unfoldable pub decode : List ℕ → Result MeasurementHeader
decode input = do
  return_if (ltb (length input) MEASUREMENT_HEADER_LEN) (Truncated error.measurement_header)
  return_if (not (same (range input 0 8) MEASUREMENT_MAGIC)) (InvalidPacket error.measurement_magic_mismatch)
  Ok (record { sequence = value_of (range input 8 16); send_timestamp_ns = value_of (range input 16 24) })

-- ---- checksum, lines 459 to 474

-- lines 462 to 468, of one part: chunks of two bytes, and a last byte without a second
unfoldable pub add_part : ℕ → List ℕ → ℕ
add_part sum [] = sum
add_part sum (last ∷ []) = wrapping_add sum (last * 256)
add_part sum (a ∷ b ∷ chunks) = add_part (wrapping_add sum (a * 256 + b)) chunks

-- lines 461 to 469: `for part in parts`
unfoldable pub add_parts : ℕ → List (List ℕ) → ℕ
add_parts sum [] = sum
add_parts sum (part ∷ parts) = add_parts (add_part sum part) parts

-- lines 470 to 472: `while (sum >> 16) != 0`, with a bound on the turns. Each turn makes the sum less.
unfoldable pub while_carries : ℕ → ℕ → ℕ
while_carries zero sum = sum
while_carries (suc turns) sum =
    elim (sum / 65536 == 0) [ true ↦ sum | false ↦ while_carries turns (sum % 65536 + sum / 65536) ]

-- `!(sum as u16)`
unfoldable pub checksum : List (List ℕ) → ℕ
checksum parts = let sum : ℕ = add_parts 0 parts in 65535 - while_carries sum sum % 65536

-- lines 452 to 457
unfoldable pub nonzero_checksum : List (List ℕ) → ℕ
nonzero_checksum parts = elim (checksum parts == 0) [ true ↦ 0xffff | false ↦ checksum parts ]

-- lines 413 to 418, and again 433 to 438
unfoldable pub ipv4_pseudo : List ℕ → List ℕ → List ℕ → List ℕ
ipv4_pseudo src dst udp = src ++ dst ++ (0 ∷ []) ++ (UDP_PROTOCOL ∷ []) ++ big_endian 2 (length udp % 65536)

-- lines 423 to 428, and again 443 to 448
unfoldable pub ipv6_pseudo : List ℕ → List ℕ → List ℕ → List ℕ
ipv6_pseudo src dst udp =
    src ++ dst ++ big_endian 4 (length udp % 4294967296) ++ (0 ∷ 0 ∷ 0 ∷ []) ++ (UDP_PROTOCOL ∷ [])

-- lines 412 to 450
unfoldable pub udp_checksum_ipv4 : List ℕ → List ℕ → List ℕ → ℕ
udp_checksum_ipv4 src dst udp = nonzero_checksum (ipv4_pseudo src dst udp ∷ udp ∷ [])

unfoldable pub udp_checksum_ipv6 : List ℕ → List ℕ → List ℕ → ℕ
udp_checksum_ipv6 src dst udp = nonzero_checksum (ipv6_pseudo src dst udp ∷ udp ∷ [])

unfoldable pub checksum_udp_ipv4_including_checksum : List ℕ → List ℕ → List ℕ → ℕ
checksum_udp_ipv4_including_checksum src dst udp = checksum (ipv4_pseudo src dst udp ∷ udp ∷ [])

unfoldable pub checksum_udp_ipv6_including_checksum : List ℕ → List ℕ → List ℕ → ℕ
checksum_udp_ipv6_including_checksum src dst udp = checksum (ipv6_pseudo src dst udp ∷ udp ∷ [])

-- ---- building

-- lines 288 to 300: the segment in the packet from this place on
unfoldable pub write_udp_segment : List ℕ → ℕ → ℕ → ℕ → ℕ → List ℕ → List ℕ
write_udp_segment packet at src_port dst_port udp_len udp_payload =
    let packet : List ℕ = copy_from_slice packet at (big_endian 2 src_port) in
    let packet : List ℕ = copy_from_slice packet (at + 2) (big_endian 2 dst_port) in
    let packet : List ℕ = copy_from_slice packet (at + 4) (big_endian 2 udp_len) in
    let packet : List ℕ = copy_from_slice packet (at + 6) (big_endian 2 0) in
    copy_from_slice packet (at + 8) udp_payload

-- lines 223 to 232: the IPv4 header, its checksum still 0
unfoldable pub ipv4_header : List ℕ → List ℕ → ℕ → List ℕ
ipv4_header src dst total_len =
    let packet : List ℕ = replicate total_len 0 in
    let packet : List ℕ = slice_set packet 0 0x45 in
    let packet : List ℕ = slice_set packet 1 0 in
    let packet : List ℕ = copy_from_slice packet 2 (big_endian 2 total_len) in
    let packet : List ℕ = copy_from_slice packet 4 (big_endian 2 0) in
    let packet : List ℕ = copy_from_slice packet 6 (big_endian 2 0) in
    let packet : List ℕ = slice_set packet 8 64 in
    let packet : List ℕ = slice_set packet 9 UDP_PROTOCOL in
    let packet : List ℕ = copy_from_slice packet 12 src in
    copy_from_slice packet 16 dst

-- lines 234 to 245: the header checksum, the segment, the UDP checksum
unfoldable pub ipv4_packet : List ℕ → List ℕ → ℕ → ℕ → ℕ → ℕ → List ℕ → List ℕ
ipv4_packet src dst src_port dst_port udp_len total_len udp_payload =
    let packet : List ℕ = ipv4_header src dst total_len in
    let packet : List ℕ =
    copy_from_slice packet 10 (big_endian 2 (checksum (range packet 0 IPV4_HEADER_LEN ∷ []))) in
    let packet : List ℕ = write_udp_segment packet IPV4_HEADER_LEN src_port dst_port udp_len udp_payload in
    copy_from_slice packet (IPV4_HEADER_LEN + 6)
    (big_endian 2 (udp_checksum_ipv4 src dst (drop IPV4_HEADER_LEN packet)))

-- lines 201 to 247
unfoldable pub build_ipv4_udp : List ℕ → List ℕ → ℕ → ℕ → List ℕ → Result (List ℕ)
build_ipv4_udp src dst src_port dst_port udp_payload = do
  let udp_len : ℕ = UDP_HEADER_LEN + length udp_payload
  return_if (nat_lt 65535 udp_len) (Overflow error.udp_len)
  let total_len : ℕ = IPV4_HEADER_LEN + udp_len
  return_if (nat_lt 65535 total_len) (Overflow error.ipv4_total_len)
  Ok (ipv4_packet src dst src_port dst_port udp_len total_len udp_payload)

-- lines 268 to 274: the IPv6 header
unfoldable pub ipv6_header : List ℕ → List ℕ → ℕ → ℕ → List ℕ
ipv6_header src dst udp_len total_len =
    let packet : List ℕ = replicate total_len 0 in
    let packet : List ℕ = slice_set packet 0 0x60 in
    let packet : List ℕ = copy_from_slice packet 4 (big_endian 2 udp_len) in
    let packet : List ℕ = slice_set packet 6 UDP_PROTOCOL in
    let packet : List ℕ = slice_set packet 7 64 in
    let packet : List ℕ = copy_from_slice packet 8 src in
    copy_from_slice packet 24 dst

-- lines 276 to 284: the segment, the UDP checksum
unfoldable pub ipv6_packet : List ℕ → List ℕ → ℕ → ℕ → ℕ → ℕ → List ℕ → List ℕ
ipv6_packet src dst src_port dst_port udp_len total_len udp_payload =
    let packet : List ℕ = ipv6_header src dst udp_len total_len in
    let packet : List ℕ = write_udp_segment packet IPV6_HEADER_LEN src_port dst_port udp_len udp_payload in
    copy_from_slice packet (IPV6_HEADER_LEN + 6)
    (big_endian 2 (udp_checksum_ipv6 src dst (drop IPV6_HEADER_LEN packet)))

-- lines 249 to 286
unfoldable pub build_ipv6_udp : List ℕ → List ℕ → ℕ → ℕ → List ℕ → Result (List ℕ)
build_ipv6_udp src dst src_port dst_port udp_payload = do
  let udp_len : ℕ = UDP_HEADER_LEN + length udp_payload
  return_if (nat_lt 65535 udp_len) (Overflow error.udp_len)
  Ok (ipv6_packet src dst src_port dst_port udp_len (IPV6_HEADER_LEN + udp_len) udp_payload)

-- lines 184 to 199
unfoldable pub build_udp_tpdu : InnerIpFlow → List ℕ → Result (List ℕ)
build_udp_tpdu (Ipv4 src dst src_port dst_port) udp_payload = build_ipv4_udp src dst src_port dst_port udp_payload
build_udp_tpdu (Ipv6 src dst src_port dst_port) udp_payload = build_ipv6_udp src dst src_port dst_port udp_payload

-- lines 153 to 163
unfoldable pub build_measurement_tpdu : InnerIpFlow → ℕ → ℕ → Result (List ℕ)
build_measurement_tpdu flow sequence time =
    build_udp_tpdu flow (encode (record { sequence = sequence; send_timestamp_ns = time }))

-- ---- decoding

-- lines 145 to 150
pub record DecodedTpdu : Type 0 where
  pub flow : InnerIpFlow
  pub measurement : MeasurementHeader

-- the tuple that `parse_udp_segment` answers
pub record UdpSegment : Type 0 where
  pub src_port : ℕ
  pub dst_port : ℕ
  pub payload : List ℕ

-- lines 399 to 410
unfoldable pub parse_udp_segment : List ℕ → Result UdpSegment
parse_udp_segment udp = do
  return_if (ltb (length udp) UDP_HEADER_LEN) (Truncated error.UDP_header)
  let udp_len : ℕ = u16_at udp 4
  return_if (ltb udp_len UDP_HEADER_LEN || nat_lt (length udp) udp_len) (InvalidPacket error.invalid_UDP_length)
  Ok (record { src_port = u16_at udp 0; dst_port = u16_at udp 2; payload = range udp UDP_HEADER_LEN udp_len })

-- lines 302 to 346
unfoldable pub decode_ipv4_measurement : List ℕ → Result DecodedTpdu
decode_ipv4_measurement tpdu = do
  return_if (ltb (length tpdu) IPV4_HEADER_LEN) (Truncated error.IPv4_header)
  let ihl : ℕ = index tpdu 0 % 16 * 4
  return_if (ltb ihl IPV4_HEADER_LEN || nat_lt (length tpdu) (ihl + UDP_HEADER_LEN))
      (InvalidPacket error.invalid_IPv4_IHL)
  let total_len : ℕ = u16_at tpdu 2
  return_if (nat_lt total_len (ihl + UDP_HEADER_LEN) || nat_lt (length tpdu) total_len)
      (InvalidPacket error.invalid_IPv4_total_length)
  return_if (not (nat_eq (index tpdu 9) UDP_PROTOCOL)) (InvalidPacket error.IPv4_payload_is_not_UDP)
  return_if (not (checksum (range tpdu 0 ihl ∷ []) == 0)) (InvalidPacket error.invalid_IPv4_header_checksum)
  let src : List ℕ = index tpdu 12 ∷ index tpdu 13 ∷ index tpdu 14 ∷ index tpdu 15 ∷ []
  let dst : List ℕ = index tpdu 16 ∷ index tpdu 17 ∷ index tpdu 18 ∷ index tpdu 19 ∷ []
  let udp : List ℕ = range tpdu ihl total_len
  segment ← parse_udp_segment udp
  return_if (not (u16_at udp 6 == 0) && not (checksum_udp_ipv4_including_checksum src dst udp == 0))
      (InvalidPacket error.invalid_IPv4_UDP_checksum)
  measurement ← decode segment.payload
  Ok (record { flow = Ipv4 src dst segment.src_port segment.dst_port; measurement = measurement })

-- lines 348 to 397
unfoldable pub decode_ipv6_measurement : List ℕ → Result DecodedTpdu
decode_ipv6_measurement tpdu = do
  return_if (nat_lt (length tpdu) (IPV6_HEADER_LEN + UDP_HEADER_LEN)) (Truncated error.IPv6_UDP_packet)
  return_if (not (nat_eq (index tpdu 6) UDP_PROTOCOL)) (InvalidPacket error.IPv6_payload_is_not_UDP)
  let payload_len : ℕ = u16_at tpdu 4
  let total_len : ℕ = IPV6_HEADER_LEN + payload_len
  return_if (nat_lt (length tpdu) total_len || ltb payload_len UDP_HEADER_LEN)
      (InvalidPacket error.invalid_IPv6_payload_length)
  let src : List ℕ = range tpdu 8 24
  let dst : List ℕ = range tpdu 24 40
  let udp : List ℕ = range tpdu IPV6_HEADER_LEN total_len
  return_if (u16_at udp 6 == 0) (InvalidPacket error.IPv6_UDP_checksum_is_zero)
  return_if (not (checksum_udp_ipv6_including_checksum src dst udp == 0))
      (InvalidPacket error.invalid_IPv6_UDP_checksum)
  segment ← parse_udp_segment udp
  measurement ← decode segment.payload
  Ok (record { flow = Ipv6 src dst segment.src_port segment.dst_port; measurement = measurement })

-- lines 166 to 175
unfoldable pub decode_measurement_tpdu : List ℕ → Result DecodedTpdu
decode_measurement_tpdu tpdu = do
  return_if (length tpdu == 0) (Truncated error.IP_header)
  let version : ℕ = index tpdu 0 / 16
  elim (version == 4) [
    | true ↦ decode_ipv4_measurement tpdu
    | false ↦
        elim (version == 6) [ true ↦ decode_ipv6_measurement tpdu | false ↦ Err (UnsupportedIpVersion version) ]
  ]

-- lines 178 to 182
unfoldable pub echo_tpdu : List ℕ → Result (List ℕ)
echo_tpdu tpdu = do
  decoded ← decode_measurement_tpdu tpdu
  build_udp_tpdu (reversed decoded.flow) (encode decoded.measurement)
