-- The pseudo-header of a UDP checksum.
use Rattle.std.specs.Prelude.{ℕ, List, ◌++◌}
use Rattle.field.specs.Field.{big_endian}
use Rattle.measurement.specs.declared.IpVersion.{IpVersion}
use Rattle.measurement.specs.declared.IpVersion.TheVariants.{V4, V6}

-- The protocol number of UDP (RFC 768, "Protocol Number").
abbrev pub udp_protocol : ℕ
udp_protocol = 17

-- The pseudo-header that a UDP checksum covers: RFC 768; RFC 8200, section 8.1.
unfoldable pub pseudo_header : IpVersion → List ℕ → List ℕ → ℕ → List ℕ
pseudo_header V4 source destination udp_length =
    source ++ destination ++ (big_endian 1 0 ++ big_endian 1 udp_protocol ++ big_endian 2 udp_length)
pseudo_header V6 source destination udp_length =
    source ++ destination ++ (big_endian 4 udp_length ++ big_endian 3 0 ++ big_endian 1 udp_protocol)
