-- What is known of a T-PDU as it was built: its bytes and its sums.
use Prim.Native.Nat.{ℕ, zero, suc, ◌+◌, ◌-◌, ◌*◌, ◌/◌, ◌%◌, ◌<◌}
use native.Mathlib.Omega.{arith}
use mathlib.Core.Path.{◌≡◌, refl, sym, ap, ◌∙◌}
use mathlib.Core.List.{List, [], ◌∷◌, ◌++◌}
use mathlib.Core.Bool.{Bool, true, false}
use lib.Dec.{eqb}
use lib.ListN.{length}
use borrow.Author.Tests.{eqb-true, eqb-false, eq-eqb}
use Rattle.field.specs.Field.{Bytes, big_endian, bytes_at, field}
use Rattle.field.proofs.Fields.{value_big_endian, length_bytes_at, bytes_at_lem, bytes_append}
use Rattle.checksum.specs.Sum.{sum_of, fold_of, checksum_of}
use Rattle.checksum.proofs.Carries.{fold_low, fold_ones, fold_whole}
use Rattle.checksum.proofs.Sums.{sum_append}
use Rattle.measurement.specs.Flow.{address_length}
use Rattle.measurement.specs.Pseudo.{pseudo_header}
use Rattle.measurement.specs.Probe.{probe, measurement_magic}
use Rattle.measurement.specs.declared.IpVersion.{IpVersion}
use Rattle.measurement.specs.declared.IpVersion.TheVariants.{V4, V6}
use Rattle.measurement_packet.specs.Packet.{ipv4, ipv4_header, ipv6, ip_header, ip_header_length, udp, udp_segment, nonzero}
use Rattle.measurement.proofs.Pseudo.{pseudo_even}

-- a sum with what is sent for its complement folds to nothing but ones
sent_fold : (n : ℕ) → fold_of (n + nonzero (65535 - fold_of n)) ≡ 65535
unfolding nonzero
sent_fold n = go (eqb (65535 - fold_of n) 0) refl
  where
    go : (b : Bool) → eqb (65535 - fold_of n) 0 ≡ b → fold_of (n + (elim b [ true ↦ 65535 | false ↦ 65535 - fold_of n ])) ≡ 65535
    go true e =
        let z = eqb-true (65535 - fold_of n) 0 e in
        let o : fold_of n ≡ 65535 = omega (arith, fold_low n) in
        let p = (fold_ones n).0 o in
        (fold_ones (n + 65535)).1 (omega arith, omega arith)
    go false e = fold_whole n

positive : (c : ℕ) → (c ≡ 0 → ⊥) → 0 < c
positive zero n = absurd (n refl)
positive (suc c) n = omega arith

nonzero_low : (c : ℕ) → c < 65536 → (0 < nonzero c) × (nonzero c < 65536)
unfolding nonzero
nonzero_low c h = go (eqb c 0) refl
  where
    go : (b : Bool) → eqb c 0 ≡ b → (0 < elim b [ true ↦ 65535 | false ↦ c ]) × (elim b [ true ↦ 65535 | false ↦ c ] < 65536)
    go true e = (omega arith, omega arith)
    go false e = (positive c (eqb-false c 0 e), h)

-- the checksum field adds its number to the sum
segment_sum : (c sport dport s t : ℕ) → c < 65536 → sum_of (udp_segment c sport dport s t) ≡ sum_of (udp_segment 0 sport dport s t) + c
unfolding udp_segment sum_of
segment_sum c sport dport s t h = plain (sport / 256 % 256) (sport / 1 % 256) (dport / 256 % 256) (dport / 1 % 256) (sum_of (probe s t)) c h
  where
    plain : (a b d e p c : ℕ) → c < 65536 → a * 256 + b + (d * 256 + e + (0 * 256 + 32 + (c / 256 % 256 * 256 + c / 1 % 256 + p))) ≡ a * 256 + b + (d * 256 + e + (0 * 256 + 32 + (0 + p))) + c
    plain a b d e p c h = omega arith

-- the segment behind a pseudo-header
module _ (ph : List ℕ) (even : length ph % 2 ≡ 0) (sport dport s t : ℕ) where
  abbrev blank : List ℕ
  blank = udp_segment 0 sport dport s t

  abbrev segment : List ℕ
  segment = udp ph sport dport s t

  pub segment_length : length segment ≡ 32
  unfolding udp udp_segment probe measurement_magic
  segment_length = refl

  pub segment_verifies : fold_of (sum_of (ph ++ segment)) ≡ 65535
  unfolding udp checksum_of
  segment_verifies =
      let n = sum_of (ph ++ blank) in
      let c = nonzero (65535 - fold_of n) in
      let low = (nonzero_low (65535 - fold_of n) (omega arith)).1 in
      ap fold_of (sum_append ph (udp_segment c sport dport s t) even
      ∙ (ap (λ (k : ℕ). sum_of ph + k) (segment_sum c sport dport s t low)
      ∙ (plus (sum_of ph) (sum_of blank) c ∙ ap (λ (k : ℕ). k + c) (sym (sum_append ph blank even)))))
      ∙ sent_fold n
    where
      plus : (a b c : ℕ) → a + (b + c) ≡ a + b + c
      plus a b c = omega arith

  pub segment_checksum : field 2 6 segment ≡ nonzero (checksum_of (ph ++ blank))
  unfolding udp udp_segment checksum_of
  segment_checksum = value_big_endian 2 (nonzero (65535 - fold_of (sum_of (ph ++ blank)))) (nonzero_low (65535 - fold_of (sum_of (ph ++ blank))) (omega arith)).1

  pub segment_checksum_not_0 : field 2 6 segment ≡ 0 → ⊥
  unfolding checksum_of
  segment_checksum_not_0 e = omega (arith, (nonzero_low (65535 - fold_of (sum_of (ph ++ blank))) (omega arith)).0, sym segment_checksum ∙ e)

  pub segment_checksum_ones : checksum_of (ph ++ blank) ≡ 0 → field 2 6 segment ≡ 65535
  unfolding nonzero
  segment_checksum_ones e = segment_checksum ∙ rw (eq-eqb (checksum_of (ph ++ blank)) 0 e, nonzero)

  pub segment_udp_length : field 2 4 segment ≡ 32
  unfolding udp udp_segment
  segment_udp_length = refl

  pub segment_bytes : Bytes segment
  unfolding udp udp_segment probe measurement_magic
  segment_bytes = omega arith

-- the IPv4 header
header_sum : (c : ℕ) (S D : List ℕ) → c < 65536
    → sum_of (ipv4_header c (bytes_at 4 0 S) (bytes_at 4 0 D)) ≡ sum_of (ipv4_header 0 (bytes_at 4 0 S) (bytes_at 4 0 D)) + c
unfolding ipv4_header sum_of
header_sum c S D h = omega arith

pub ipv4_verifies : (S D : List ℕ) → fold_of (sum_of (ipv4 (bytes_at 4 0 S) (bytes_at 4 0 D))) ≡ 65535
unfolding ipv4 checksum_of
ipv4_verifies S D =
    let n = sum_of (ipv4_header 0 (bytes_at 4 0 S) (bytes_at 4 0 D)) in
    ap fold_of (header_sum (65535 - fold_of n) S D (omega arith)) ∙ fold_whole n

header_bytes_lem : (v : IpVersion) (S D : List ℕ) → Bytes S → Bytes D → Bytes (ip_header v (bytes_at (address_length v) 0 S) (bytes_at (address_length v) 0 D))
unfolding ip_header ipv4 ipv4_header ipv6 address_length
header_bytes_lem V4 S D p q =
    let c = checksum_of (ipv4_header 0 (bytes_at 4 0 S) (bytes_at 4 0 D)) in
    let h : List ℕ = 69 ∷ 0 ∷ 0 ∷ 52 ∷ 0 ∷ 0 ∷ 0 ∷ 0 ∷ 64 ∷ 17 ∷ big_endian 2 c in
    bytes_append (h ++ bytes_at 4 0 S) (bytes_at 4 0 D) (bytes_append h (bytes_at 4 0 S) (omega arith) (bytes_at_lem 4 0 S p)) (bytes_at_lem 4 0 D q)
header_bytes_lem V6 S D p q =
    let h : List ℕ = 96 ∷ 0 ∷ 0 ∷ 0 ∷ 0 ∷ 32 ∷ 17 ∷ 64 ∷ [] in
    bytes_append (h ++ bytes_at 16 0 S) (bytes_at 16 0 D) (bytes_append h (bytes_at 16 0 S) (omega arith) (bytes_at_lem 16 0 S p)) (bytes_at_lem 16 0 D q)

pub header_length : (v : IpVersion) (S D : List ℕ) → length (ip_header v (bytes_at (address_length v) 0 S) (bytes_at (address_length v) 0 D)) ≡ ip_header_length v
unfolding ip_header ipv4 ipv4_header ipv6 address_length ip_header_length
header_length V4 S D = refl
header_length V6 S D = refl

-- a whole T-PDU, from the bytes S and D of its addresses
module _ (v : IpVersion) (S D : List ℕ) (sport dport s t : ℕ) where
  abbrev pub source : List ℕ
  source = bytes_at (address_length v) 0 S

  abbrev pub destination : List ℕ
  destination = bytes_at (address_length v) 0 D

  abbrev pub pseudo : List ℕ
  pseudo = pseudo_header v (bytes_at (address_length v) 0 S) (bytes_at (address_length v) 0 D) 32

  abbrev pub packet : List ℕ
  packet = ip_header v source destination ++ udp pseudo sport dport s t

  pub packet_even : length pseudo % 2 ≡ 0
  packet_even = pseudo_even v source destination 32 (length_bytes_at (address_length v) 0 S) (length_bytes_at (address_length v) 0 D)

  pub packet_bytes : Bytes S → Bytes D → Bytes packet
  packet_bytes p q = bytes_append (ip_header v source destination) (udp pseudo sport dport s t) (header_bytes_lem v S D p q) (segment_bytes pseudo packet_even sport dport s t)
