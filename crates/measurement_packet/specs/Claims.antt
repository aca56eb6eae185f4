-- What is claimed of a built T-PDU. proofs/Claims.antt proves it.
use Rattle.std.specs.Prelude.{ℕ, ◌≡◌, ◌++◌, take, drop}
use Rattle.field.specs.Field.{field}
use Rattle.checksum.specs.Sum.{checksum_of}
use Rattle.checksum.specs.Claims.{Verifies}
use Rattle.measurement.specs.Layout.{ipv4_header_bytes, udp_checksum}
use Rattle.measurement.specs.Flow.{address, InRange}
use Rattle.measurement.specs.Pseudo.{pseudo_header}
use Rattle.measurement.specs.declared.InnerIpFlow.{InnerIpFlow}
use Rattle.measurement.specs.declared.IpVersion.{IpVersion}
use Rattle.measurement.specs.declared.IpVersion.TheVariants.{V4}
use Rattle.measurement_packet.specs.Packet.{ip_header_length, udp_segment, build_of}

-- The checksums of a built packet are right by the RFCs: RFC 791's over the header, RFC 768's and RFC 8200's over
-- pseudo-header and segment. The UDP checksum field is never 0: where the computed checksum is 0, it is all ones.
pub record ChecksumsRight (flow : InnerIpFlow) (s t : ℕ) : Type 0 where
  pub ipv4_header : flow.version ≡ V4 → Verifies (take ipv4_header_bytes (build_of flow s t))
  pub udp : let v : IpVersion = flow.version in
      Verifies (pseudo_header v (address v flow.src) (address v flow.dst) 32
      ++ drop (ip_header_length v) (build_of flow s t))
  pub not_zero : field 2 udp_checksum (drop (ip_header_length flow.version) (build_of flow s t)) ≡ 0 → ⊥
  pub all_ones : let v : IpVersion = flow.version in
      checksum_of (pseudo_header v (address v flow.src) (address v flow.dst) 32
      ++ udp_segment 0 flow.src_port flow.dst_port s t) ≡ 0
      → field 2 udp_checksum (drop (ip_header_length v) (build_of flow s t)) ≡ 65535

abbrev pub ChecksumsVerify : Type 0
ChecksumsVerify = (flow : InnerIpFlow) (sequence time : ℕ) → InRange flow sequence time
    → ChecksumsRight flow sequence time
