-- A header and a segment in a buffer are the whole T-PDU of the definitions.
use Prim.Native.Nat.{ℕ, ◌+◌, ◌-◌, ◌%◌, ◌<◌, ◌≤◌}
use native.Mathlib.Omega.{arith}
use mathlib.Core.Path.{◌≡◌, sym, ap, ap₂, ◌∙◌}
use mathlib.Core.List.{List, ◌++◌}
use lib.ListN.{length, take, drop, length-append}
use borrow.Author.Tests.{lt-ltb, le-ltb}
use Rattle.error.specs.Outcome.{Outcome, refused, gives}
use Rattle.field.specs.Field.{bytes_at}
use Rattle.field.proofs.Parts.{laid}
use Rattle.checksum.specs.Sum.{sum_of, fold_of, checksum_of}
use Rattle.checksum.proofs.Sums.{sum_append}
use Rattle.measurement.specs.Flow.{address_length, address}
use Rattle.measurement.specs.Pseudo.{pseudo_header}
use Rattle.measurement.specs.Answer.{Writing, writing}
use Rattle.measurement.specs.declared.InnerIpFlow.{InnerIpFlow}
use Rattle.measurement.specs.declared.IpVersion.{IpVersion}
use Rattle.measurement.specs.declared.IpVersion.TheVariants.{V4}
use Rattle.measurement_packet.specs.Packet.{ipv4, ipv4_header, ip_header, ip_header_length, udp, udp_segment, nonzero, build_of}
use Rattle.measurement.proofs.Pseudo.{Folds}
use Rattle.measurement_packet.proofs.Built.{header_length, packet_even, segment_length}
use Rattle.measurement_build.specs.Segment.{segment_over}
use Rattle.measurement_build.proofs.Words.{header_checked}

abbrev pair : Outcome ℕ → List ℕ → Writing
pair o b = record { outcome = o; buffer = b }

writing_short : (b out : List ℕ) → length out < length b → pair (refused 15) out ≡ writing b out
unfolding writing
writing_short b out h = rw (lt-ltb (length out) (length b) h, writing)

pub writing_fits : (b out : List ℕ) → length b ≤ length out → pair (gives (length b)) (b ++ drop (length b) out) ≡ writing b out
unfolding writing
writing_fits b out h = rw (le-ltb (length out) (length b) h, writing)

module _ (f : InnerIpFlow) (s t : ℕ) (v : IpVersion) (e : f.version ≡ v) where
  abbrev source : List ℕ
  source = bytes_at (address_length v) 0 f.src

  abbrev destination : List ℕ
  destination = bytes_at (address_length v) 0 f.dst

  abbrev pseudo : List ℕ
  pseudo = pseudo_header v (bytes_at (address_length v) 0 f.src) (bytes_at (address_length v) 0 f.dst) 32

  even : length pseudo % 2 ≡ 0
  even = packet_even v f.src f.dst f.src_port f.dst_port s t

  abbrev segment : List ℕ
  segment = udp pseudo f.src_port f.dst_port s t

  build_is : build_of f s t ≡ ip_header v source destination ++ segment
  unfolding build_of address
  build_is =
      ap (λ (w : IpVersion). ip_header w (bytes_at (address_length w) 0 f.src) (bytes_at (address_length w) 0 f.dst)
      ++ udp (pseudo_header w (bytes_at (address_length w) 0 f.src) (bytes_at (address_length w) 0 f.dst) 32) f.src_port f.dst_port s t) e

  pub build_length : length (build_of f s t) ≡ ip_header_length v + 32
  build_length =
      ap length build_is ∙ length-append (ip_header v source destination) segment
      ∙ ap₂ (λ (a b : ℕ). a + b) (header_length v f.src f.dst) (segment_length pseudo even f.src_port f.dst_port s t)

  -- over what folds as the pseudo-header's words do, or over its bytes
  over : (p : ℕ) → Folds p (sum_of pseudo) → segment_over p f.src_port f.dst_port s t ≡ segment
  unfolding segment_over udp checksum_of
  over p folds =
      let u = udp_segment 0 f.src_port f.dst_port s t in
      ap (λ (n : ℕ). udp_segment (nonzero (65535 - n)) f.src_port f.dst_port s t)
      (ap fold_of (turn p (sum_of u)) ∙ folds (sum_of u) ∙ ap fold_of (turn (sum_of u) (sum_of pseudo) ∙ sym (sum_append pseudo u even)))
    where
      turn : (a b : ℕ) → a + b ≡ b + a
      turn a b = omega arith

  pub too_short : (out : List ℕ) → length out < ip_header_length v + 32 → pair (refused 15) out ≡ writing (build_of f s t) out
  too_short out h = writing_short (build_of f s t) out (omega (arith, build_length))

  pub built : (out part whole : List ℕ) (p : ℕ) → ip_header_length v + 32 ≤ length out
      → whole ≡ ip_header v source destination ++ drop (ip_header_length v) out
      → Folds p (sum_of (pseudo_header f.version (address f.version f.src) (address f.version f.dst) 32))
      → part ≡ segment_over p f.src_port f.dst_port s t ++ drop 32 (take (length whole - ip_header_length v) (drop (ip_header_length v) whole))
      → pair (gives (ip_header_length v + 32)) (take (ip_header_length v) whole ++ (part ++ drop (length whole - ip_header_length v) (drop (ip_header_length v) whole)))
      ≡ writing (build_of f s t) out
  unfolding address
  built out part whole p h ew ep eq =
      let same : Folds p (sum_of pseudo) =
      λ n. ep n ∙ ap (λ (w : IpVersion). fold_of (n + sum_of (pseudo_header w (bytes_at (address_length w) 0 f.src) (bytes_at (address_length w) 0 f.dst) 32))) e in
      let q = eq ∙ ap (λ (x : List ℕ). x ++ drop 32 (take (length whole - ip_header_length v) (drop (ip_header_length v) whole))) (over p same) in
      let w = laid (ip_header v source destination) segment out part whole (ip_header_length v) 32 (header_length v f.src f.dst)
      (segment_length pseudo even f.src_port f.dst_port s t) h ew q in
      ap (pair (gives (ip_header_length v + 32))) w
      ∙ ap₂ (λ (n : ℕ) (b : List ℕ). pair (gives n) (b ++ drop n out)) (sym build_length) (sym build_is)
      ∙ writing_fits (build_of f s t) out (omega (arith, build_length))

-- the IPv4 header that was written over such a number is the definitions'
pub ipv4_headed : (f : InnerIpFlow) (p : ℕ) → f.version ≡ V4
    → Folds p (sum_of (pseudo_header f.version (address f.version f.src) (address f.version f.dst) 32))
    → ipv4_header (65535 - fold_of (0x8514 + p)) (bytes_at 4 0 f.src) (bytes_at 4 0 f.dst) ≡ ipv4 (bytes_at 4 0 f.src) (bytes_at 4 0 f.dst)
unfolding address address_length
ipv4_headed f p e folds =
    header_checked f.src f.dst p
    (λ n. folds n ∙ ap (λ (w : IpVersion). fold_of (n + sum_of (pseudo_header w (address w f.src) (address w f.dst) 32))) e)
