-- The claim of specs/Claims.antt, proved.
use Prim.Native.Nat.{ℕ, ◌%◌}
use mathlib.Core.Path.{◌≡◌, sym, ap, ◌∙◌}
use mathlib.Core.List.{List, ◌++◌}
use lib.ListN.{length, take, drop}
use lib.Seq.{drop_at}
use Rattle.field.specs.Field.{bytes_at, field}
use Rattle.checksum.specs.Sum.{sum_of, fold_of}
use Rattle.measurement.specs.Flow.{address_length, address}
use Rattle.measurement.specs.Pseudo.{pseudo_header}
use Rattle.measurement.specs.declared.InnerIpFlow.{InnerIpFlow}
use Rattle.measurement.specs.declared.IpVersion.{IpVersion}
use Rattle.measurement.specs.declared.IpVersion.TheVariants.{V4}
use Rattle.measurement_packet.specs.Packet.{ipv4, ipv4_header, ip_header, ip_header_length, udp, build_of}
use Rattle.measurement_packet.specs.Claims.{ChecksumsRight, ChecksumsVerify}
use Rattle.measurement_packet.proofs.Built.{header_length, pseudo, packet_even, segment_verifies, segment_checksum_not_0, segment_checksum_ones, ipv4_verifies}

front_header : (f : InnerIpFlow) (s t : ℕ) → f.version ≡ V4 → take 20 (build_of f s t) ≡ ipv4 (bytes_at 4 0 f.src) (bytes_at 4 0 f.dst)
unfolding build_of address ip_header ipv4 ipv4_header address_length
front_header f s t h =
    ap (λ (v : IpVersion). take 20 (ip_header v (bytes_at (address_length v) 0 f.src) (bytes_at (address_length v) 0 f.dst)
    ++ udp (pseudo_header v (bytes_at (address_length v) 0 f.src) (bytes_at (address_length v) 0 f.dst) 32) f.src_port f.dst_port s t)) h

module _ (f : InnerIpFlow) (s t : ℕ) where
  abbrev version_of_lem : IpVersion
  version_of_lem = f.version

  abbrev ph : List ℕ
  ph = pseudo f.version f.src f.dst f.src_port f.dst_port s t

  even : length ph % 2 ≡ 0
  even = packet_even f.version f.src f.dst f.src_port f.dst_port s t

  behind_header : drop (ip_header_length f.version) (build_of f s t) ≡ udp ph f.src_port f.dst_port s t
  unfolding build_of address
  behind_header = drop_at (ip_header version_of_lem (bytes_at (address_length version_of_lem) 0 f.src) (bytes_at (address_length version_of_lem) 0 f.dst)) (udp ph f.src_port f.dst_port s t) (ip_header_length version_of_lem) (header_length version_of_lem f.src f.dst)

  checksums : ChecksumsRight f s t
  unfolding address
  checksums = record {
    ipv4_header = λ h. ap (λ (x : List ℕ). fold_of (sum_of x)) (front_header f s t h) ∙ ipv4_verifies f.src f.dst;
    udp = ap (λ (u : List ℕ). fold_of (sum_of (ph ++ u))) behind_header ∙ segment_verifies ph even f.src_port f.dst_port s t;
    not_zero = λ e. segment_checksum_not_0 ph even f.src_port f.dst_port s t (ap (λ (u : List ℕ). field 2 6 u) (sym behind_header) ∙ e);
    all_ones = λ e. ap (λ (u : List ℕ). field 2 6 u) behind_header ∙ segment_checksum_ones ph even f.src_port f.dst_port s t e;
  }

pub checksums_verify : ChecksumsVerify
checksums_verify f s t g = checksums f s t
