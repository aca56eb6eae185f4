-- A measurement T-PDU as it is built, field by field in the order of the RFCs' diagrams. What the RFCs leave free is
-- the Rust's choice (document 01, leaf 3), and marked so.
use Rattle.std.specs.Prelude.{ℕ, ◌+◌, ◌*◌, List, ◌++◌, true, false, eqb}
use Rattle.field.specs.Field.{big_endian}
use Rattle.checksum.specs.Sum.{checksum_of}
use Rattle.measurement.specs.Layout.{ipv4_header_bytes, ipv6_header_bytes}
use Rattle.measurement.specs.Flow.{address}
use Rattle.measurement.specs.Pseudo.{udp_protocol, pseudo_header}
use Rattle.measurement.specs.Probe.{probe}
use Rattle.measurement.specs.declared.InnerIpFlow.{InnerIpFlow}
use Rattle.measurement.specs.declared.IpVersion.{IpVersion}
use Rattle.measurement.specs.declared.IpVersion.TheVariants.{V4, V6}

-- RFC 791, section 3.1. Chosen: no options, identification and flags 0, time to live 64.
unfoldable pub ipv4_header : ℕ → List ℕ → List ℕ → List ℕ
ipv4_header checksum source destination =
    -- version and IHL, type of service, total length
    big_endian 1 (4 * 16 + 5) ++ big_endian 1 0 ++ big_endian 2 52
    -- identification, flags and fragment offset
    ++ big_endian 2 0 ++ big_endian 2 0
    -- time to live, protocol, header checksum
    ++ big_endian 1 64 ++ big_endian 1 udp_protocol ++ big_endian 2 checksum
    ++ source
    ++ destination

-- "For purposes of computing the checksum, the value of the checksum field is zero."
unfoldable pub ipv4 : List ℕ → List ℕ → List ℕ
ipv4 source destination = ipv4_header (checksum_of (ipv4_header 0 source destination)) source destination

-- RFC 8200, section 3. Chosen: traffic class and flow label 0, hop limit 64.
unfoldable pub ipv6 : List ℕ → List ℕ → List ℕ
ipv6 source destination =
    -- version, traffic class, flow label
    big_endian 4 (6 * 268435456)
    -- payload length, next header, hop limit
    ++ big_endian 2 32 ++ big_endian 1 udp_protocol ++ big_endian 1 64
    ++ source
    ++ destination

unfoldable pub ip_header : IpVersion → List ℕ → List ℕ → List ℕ
ip_header V4 source destination = ipv4 source destination
ip_header V6 source destination = ipv6 source destination

unfoldable pub ip_header_length : IpVersion → ℕ
ip_header_length V4 = ipv4_header_bytes
ip_header_length V6 = ipv6_header_bytes

-- RFC 768: source port, destination port, length, checksum; then the probe.
unfoldable pub udp_segment : ℕ → ℕ → ℕ → ℕ → ℕ → List ℕ
udp_segment checksum source_port destination_port sequence time =
    big_endian 2 source_port ++ big_endian 2 destination_port
    ++ big_endian 2 32 ++ big_endian 2 checksum
    ++ probe sequence time

-- RFC 768: "If the computed checksum is zero, it is transmitted as all ones".
unfoldable pub nonzero : ℕ → ℕ
nonzero checksum = elim (eqb checksum 0) [ true ↦ 65535 | false ↦ checksum ]

-- The segment with its checksum, which covers the pseudo-header and the segment with a checksum field of 0.
unfoldable pub udp : List ℕ → ℕ → ℕ → ℕ → ℕ → List ℕ
udp pseudo source_port destination_port sequence time =
    udp_segment (nonzero (checksum_of (pseudo ++ udp_segment 0 source_port destination_port sequence time)))
    source_port destination_port sequence time

-- The whole T-PDU: 52 bytes for IPv4, 72 for IPv6.
unfoldable pub build_of : InnerIpFlow → ℕ → ℕ → List ℕ
build_of flow sequence time =
    let v : IpVersion = flow.version in
    let source : List ℕ = address v flow.src in
    let destination : List ℕ = address v flow.dst in
    ip_header v source destination
    ++ udp (pseudo_header v source destination 32) flow.src_port flow.dst_port sequence time
