-- A built T-PDU is read back, and an IPv4 one also with other flags, unless they make it a fragment.
use Prim.Native.Nat.{ℕ, ◌+◌, ◌/◌, ◌%◌, ◌^◌, ◌<◌}
use native.Mathlib.Omega.{arith}
use mathlib.Core.Path.{◌≡◌, refl, sym, ap, ap₂, ◌∙◌}
use mathlib.Core.List.{List, [], ◌∷◌, ◌++◌}
use mathlib.Core.Bool.{false, not}
use lib.Dec.{eqb}
use lib.ListN.{length}
use Rattle.error.specs.Outcome.{refused, gives}
use Rattle.error.proofs.Causes.{none, past, passes}
use Rattle.error.proofs.Tests.{differs, equals}
use Rattle.field.specs.Field.{big_endian, value_of, bytes_at, field}
use Rattle.field.proofs.Fields.{value_big_endian, length_bytes_at}
use Rattle.checksum.specs.Sum.{sum_of, fold_of, checksum_of}
use Rattle.checksum.specs.Claims.{Verifies}
use Rattle.checksum.proofs.Sums.{sealed}
use Rattle.measurement.specs.Flow.{address_length}
use Rattle.measurement.specs.Pseudo.{pseudo_header}
use Rattle.measurement.specs.Probe.{probe, measurement_magic}
use Rattle.measurement.specs.declared.DecodedTpdu.{DecodedTpdu}
use Rattle.measurement.specs.declared.IpVersion.{IpVersion}
use Rattle.measurement.specs.declared.IpVersion.TheVariants.{V4, V6}
use Rattle.measurement_packet.specs.Packet.{ipv4, ipv4_header, ipv6, ip_header, udp, udp_segment}
use Rattle.measurement_damage.specs.Fragments.{packet_with}
use Rattle.measurement_reading.specs.Read.{payload, length_wrong, sum_wrong, probe_causes, tpdu_with, tpdu_of, read_probe, read_udp, ihl, is_fragment, read_ipv4, read_of}
use Rattle.measurement.proofs.Pseudo.{pseudo_even}
use Rattle.measurement_packet.proofs.Built.{packet, segment_length, segment_verifies, segment_checksum_not_0, segment_udp_length}
use Rattle.measurement_reading.proofs.Rows.{udp_rows, past_10, past_11, past_12}
use Rattle.measurement_reading.proofs.Rows.{LeftIpv4, fragment_bits, fragment_tested, row_38, past_38, rest_ipv4, read_as_ipv4}
use Rattle.measurement_reading.proofs.Accept.{checksum_0}
use Rattle.measurement_reading.proofs.Padding.{filled_sum}
use Rattle.measurement_reading.proofs.Fragments.{left_38}
use Rattle.measurement_reading.proofs.Rows.{ipv6_rows, past_8, past_6_ipv6, past_9, rest_ipv6, tpdu_rows, past_1, past_2_ipv6}

-- the UDP length of a built segment
module _ (ph : List ℕ) (sport dport s t : ℕ) where
  length_is_right : length_wrong (udp ph sport dport s t) ≡ false
  unfolding length_wrong udp udp_segment probe measurement_magic
  length_is_right = refl

-- a part that is right goes to the probe
part_right : (v : IpVersion) (src dst u : List ℕ) → sum_wrong v src dst u ≡ false → (field 2 6 u ≡ 0 → ⊥) → length_wrong u ≡ false → read_probe v src dst u ≡ read_udp v src dst u
part_right v src dst u sum set length = past_12 src dst u v (past_11 src dst u v (past_10 src dst u v (udp_rows src dst u v) length) set) sum

-- what the segment gives, behind the pseudo-header of its addresses
module _ (v : IpVersion) (src dst : List ℕ) (sport dport s t : ℕ) (h : length src ≡ address_length v) (k : length dst ≡ address_length v) where
  abbrev ph : List ℕ
  ph = pseudo_header v src dst 32

  abbrev u : List ℕ
  u = udp (pseudo_header v src dst 32) sport dport s t

  even : length (pseudo_header v src dst 32) % 2 ≡ 0
  even = pseudo_even v src dst 32 h k

  probed : gives (tpdu_of v src dst u) ≡ read_probe v src dst u
  unfolding read_probe probe_causes payload udp udp_segment probe measurement_magic
  probed = passes _ (past refl (past refl none))

  sum_is_right : sum_wrong v src dst u ≡ false
  sum_is_right =
      let whole = segment_length ph even sport dport s t in
      filled_sum v src dst u (segment_udp_length ph even sport dport s t ∙ sym whole)
      ∙ ap (λ (n : ℕ). not (eqb (checksum_of (pseudo_header v src dst n ++ u)) 0)) whole
      ∙ equals (checksum_of (ph ++ u)) 0 (sym (checksum_0 (ph ++ u) (segment_verifies ph even sport dport s t)))

  part_gives : gives (tpdu_of v src dst u) ≡ read_udp v src dst u
  part_gives = probed ∙ part_right v src dst u sum_is_right (segment_checksum_not_0 ph even sport dport s t) (length_is_right ph sport dport s t)

-- a whole T-PDU, from the bytes S and D of its addresses
module _ (v : IpVersion) (S D : List ℕ) (sport dport s t : ℕ) where
  abbrev source : List ℕ
  source = bytes_at (address_length v) 0 S

  abbrev destination : List ℕ
  destination = bytes_at (address_length v) 0 D

  abbrev pseudo : List ℕ
  pseudo = pseudo_header v (bytes_at (address_length v) 0 S) (bytes_at (address_length v) 0 D) 32

  abbrev pub tpdu : DecodedTpdu
  tpdu = tpdu_with v source destination sport dport s t

  -- the fields of the segment are the numbers that were put there
  pub tpdu_is : sport < 65536 → dport < 65536 → s < 2 ^ 64 → t < 2 ^ 64 → tpdu_of v source destination (udp pseudo sport dport s t) ≡ tpdu
  unfolding udp udp_segment probe measurement_magic payload
  tpdu_is hs hd ss st =
      ap₂ (λ (a b : ℕ). tpdu_with v source destination a b (value_of (big_endian 8 s)) (value_of (big_endian 8 t)))
      (value_big_endian 2 sport hs) (value_big_endian 2 dport hd)
      ∙ ap₂ (λ (a b : ℕ). tpdu_with v source destination sport dport a b) (value_big_endian 8 s ss) (value_big_endian 8 t st)

  pub part_of_packet : sport < 65536 → dport < 65536 → s < 2 ^ 64 → t < 2 ^ 64 → gives tpdu ≡ read_udp v source destination (udp pseudo sport dport s t)
  part_of_packet hs hd ss st =
      ap gives (sym (tpdu_is hs hd ss st))
      ∙ part_gives v source destination sport dport s t (length_bytes_at (address_length v) 0 S) (length_bytes_at (address_length v) 0 D)

-- a header whose checksum was made right verifies
pub placed : (p s : List ℕ) → length p % 2 ≡ 0 → let c : ℕ = checksum_of (p ++ (0 ∷ 0 ∷ s)) in Verifies (p ++ (c / 256 % 256 ∷ c / 1 % 256 ∷ s))
placed p s h =
    let c = checksum_of (p ++ (0 ∷ 0 ∷ s)) in
    let low : c < 65536 = unfold checksum_of in omega arith in
    let high_is : c / 256 % 256 ≡ c / 256 = omega arith in
    let low_is : c / 1 % 256 ≡ c % 256 = omega arith in
    ap₂ (λ (a b : ℕ). fold_of (sum_of (p ++ (a ∷ b ∷ s)))) high_is low_is ∙ sealed p s h

-- an IPv4 packet with any word for its flags and fragment offset, and with anything behind it: 38 decides
module _ (S D : List ℕ) (sport dport s t word : ℕ) (behind : List ℕ) where
  abbrev flagged : List ℕ
  flagged = packet_with word (packet V4 S D sport dport s t) ++ behind

  flagged_left : LeftIpv4 flagged 38
  unfolding ip_header ipv4 ipv4_header udp udp_segment probe measurement_magic address_length ihl
  flagged_left =
      left_38 flagged {k = 5} refl {n = 52} refl
      (record {
        not_3 = omega arith;
        not_4 = omega arith;
        not_39 = omega arith;
        not_5 = (omega arith, omega arith);
        not_6 = refl;
        not_7 = placed (69 ∷ 0 ∷ 0 ∷ 52 ∷ 0 ∷ 0 ∷ word / 256 % 256 ∷ word / 1 % 256 ∷ 64 ∷ 17 ∷ []) (bytes_at 4 0 S ++ bytes_at 4 0 D) refl;
      })

  flagged_is_ipv4 : read_ipv4 flagged ≡ read_of flagged
  unfolding ip_header ipv4 ipv4_header
  flagged_is_ipv4 = read_as_ipv4 flagged refl

  flags_tested : word < 65536 → not (eqb (fragment_bits word) 0) ≡ is_fragment flagged
  unfolding ip_header ipv4 ipv4_header
  flags_tested fits = fragment_tested flagged (sym (value_big_endian 2 word fits)) (λ z. z) (λ z. z)

  pub fragment_refused : word < 65536 → (fragment_bits word ≡ 0 → ⊥) → read_of flagged ≡ refused 38
  fragment_refused fits h = sym (row_38 flagged flagged_left (sym (flags_tested fits) ∙ differs (fragment_bits word) 0 h) ∙ flagged_is_ipv4)

  pub flagged_read : sport < 65536 → dport < 65536 → s < 2 ^ 64 → t < 2 ^ 64 → word < 65536 → fragment_bits word ≡ 0 → read_of flagged ≡ gives (tpdu V4 S D sport dport s t)
  unfolding ip_header ipv4 ipv4_header udp udp_segment probe measurement_magic address_length ihl
  flagged_read hs hd ss st fits h =
      sym (part_of_packet V4 S D sport dport s t hs hd ss st
      ∙ rest_ipv4 flagged {k = 5} refl {n = 52} refl (past_38 flagged flagged_left (sym (flags_tested fits) ∙ equals (fragment_bits word) 0 h))
      ∙ flagged_is_ipv4)

-- a built packet is read back, with anything behind it
module _ (S D : List ℕ) (sport dport s t : ℕ) (hs : sport < 65536) (hd : dport < 65536) (ss : s < 2 ^ 64) (st : t < 2 ^ 64) (behind : List ℕ) where
  -- its flags and fragment offset are 0
  reads_back_4 : read_of (packet V4 S D sport dport s t ++ behind) ≡ gives (tpdu V4 S D sport dport s t)
  unfolding ip_header ipv4 ipv4_header udp address_length
  reads_back_4 = flagged_read S D sport dport s t 0 behind hs hd ss st (omega arith) refl

  reads_back_6 : read_of (packet V6 S D sport dport s t ++ behind) ≡ gives (tpdu V6 S D sport dport s t)
  unfolding ip_header ipv6 udp udp_segment probe measurement_magic address_length
  reads_back_6 =
      let p = packet V6 S D sport dport s t ++ behind in
      let left_9 = past_6_ipv6 p (past_8 p (ipv6_rows p) (omega arith)) refl in
      let left_0 = past_9 p {n = 32} refl left_9 (omega arith) (omega arith) in
      sym (part_of_packet V6 S D sport dport s t hs hd ss st
      ∙ rest_ipv6 p {n = 32} refl left_0
      ∙ past_2_ipv6 p {v = 6} refl (past_1 p (tpdu_rows p) (λ e. omega arith)) refl)

  pub packet_reads_back : (v : IpVersion) → read_of (packet v S D sport dport s t ++ behind) ≡ gives (tpdu v S D sport dport s t)
  packet_reads_back V4 = reads_back_4
  packet_reads_back V6 = reads_back_6
