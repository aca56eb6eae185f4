-- The claims of specs/Padding.antt.
use Prim.Native.Nat.{ℕ, ◌+◌, ◌-◌, ◌%◌, ◌≤◌}
use native.Mathlib.Omega.{arith}
use mathlib.Core.Path.{◌≡◌, refl, sym, ap, ap₂, ◌∙◌}
use mathlib.Core.List.{List, ◌++◌}
use mathlib.Core.Bool.{Bool, true, false, not}
use mathlib.Core.Logic.{◌⊎◌, inl, inr}
use lib.Dec.{eqb}
use lib.ListN.{length, take, drop, get_or, length-drop, length-append}
use lib.Seq.{length-take-le, take-length, take-append_seam, take-append-le, drop-append-le}
use borrow.Author.Tests.{le-ltb}
use Rattle.error.specs.Outcome.{gives, first_cause}
use Rattle.error.proofs.Tests.{or_none, differs, equals}
use Rattle.field.specs.Field.{Bytes, value_of, bytes_at, field}
use Rattle.field.proofs.Fields.{bytes_at_take, bytes_at_drop}
use Rattle.checksum.specs.Sum.{sum_of, folding, fold_of, checksum_of}
use Rattle.checksum.specs.Claims.{Verifies}
use Rattle.measurement.specs.Flow.{padded}
use Rattle.measurement.specs.Pseudo.{pseudo_header}
use Rattle.measurement.specs.Probe.{measurement_magic}
use Rattle.measurement.specs.declared.IpVersion.{IpVersion}
use Rattle.measurement.specs.declared.IpVersion.TheVariants.{V4, V6}
use Rattle.measurement_reading.specs.Fragments.{Fragment}
use Rattle.measurement_reading.specs.Padding.{ReachesUdp, source_in, destination_in, part_in, LengthRight}
use Rattle.measurement_reading.specs.Padding.{JudgedByRfcs, Carries, PaddingIgnored, PaddingExamples}
use Rattle.measurement_reading.specs.Read.{payload, length_wrong, covered, sum_wrong, probe_causes, must_be_summed, udp_causes, tpdu_with, tpdu_of, read_probe, read_udp}
use Rattle.measurement_reading.specs.Read.{ihl, is_fragment, ipv4_causes, read_ipv4, ipv6_causes, read_ipv6, tpdu_causes, read_of}
use Rattle.measurement_reading.proofs.Rows.{length_right, LeftProbe, probe_rows, row_13, past_13, row_14, past_14}
use Rattle.measurement_reading.proofs.Rows.{LeftUdp, udp_rows, row_10, past_10, row_11, past_11, past_11_unsummed, row_12, past_12, past_12_unsummed}
use Rattle.measurement_reading.proofs.Rows.{past_38, rest_ipv4, read_as_ipv4, ipv6_rows, past_8, past_6_ipv6, past_9, rest_ipv6, tpdu_rows, past_1, past_2_ipv6}
use Rattle.measurement_reading.proofs.Accept.{verifies, checksum_0}
use Rattle.measurement_reading.proofs.Fragments.{fragment_is, left_38, length_is}

-- ---- where a UDP part is judged, it gives the answer

pub no_fragment : (p : List ℕ) → Bytes p → (Fragment p → ⊥) → is_fragment p ≡ false
no_fragment p b whole = by (is_fragment p) refl
  where
    by : (t : Bool) → is_fragment p ≡ t → t ≡ false
    by true e = absurd (whole (fragment_is p b e))
    by false e = refl

pub reached : (v : IpVersion) (p : List ℕ) → Bytes p → ReachesUdp v p → read_udp v (source_in v p) (destination_in v p) (part_in v p) ≡ read_of p
unfolding ihl
reached V4 p b (is_4, right, whole) =
    rest_ipv4 p {k = get_or p 0 0 % 16} refl refl (past_38 p (left_38 p refl (length_is p) right) (no_fragment p b whole)) ∙ read_as_ipv4 p is_4
reached V6 p b right =
    let left_9 = past_6_ipv6 p (past_8 p (ipv6_rows p) right.not_8) right.not_6 in
    let left_0 = past_9 p refl left_9 right.not_9.0 right.not_9.1 in
    let n : field 2 4 p ≡ field 2 4 p + 40 - 40 = omega arith in
    ap (λ (n : ℕ). read_udp V6 (bytes_at 16 8 p) (bytes_at 16 24 p) (take n (drop 40 p))) n
    ∙ rest_ipv6 p refl left_0
    ∙ past_2_ipv6 p refl (past_1 p (tpdu_rows p) (λ e. omega (arith, right.not_8))) right.is_ipv6

-- ---- the UDP part by its bytes

pub length_fits : (u : List ℕ) → LengthRight u → length_wrong u ≡ false
unfolding length_wrong
length_fits u (low, high) = or_none _ _ (le-ltb (field 2 4 u) 8 low) (le-ltb (length u) (field 2 4 u) high)

length_refused : (u : List ℕ) → (LengthRight u → ⊥) → length_wrong u ≡ true
length_refused u bad = by (length_wrong u) refl
  where
    by : (t : Bool) → length_wrong u ≡ t → t ≡ true
    by true e = refl
    by false e = absurd (bad (length_right u e))

-- a field of the payload is a field of the part, where the UDP length reaches behind it
pub payload_at : (u : List ℕ) (k at : ℕ) → 8 + at + k ≤ field 2 4 u → bytes_at k at (payload u) ≡ bytes_at k (8 + at) u
unfolding payload
payload_at u k at h = bytes_at_take k (field 2 4 u - 8) at (drop 8 u) (omega arith) ∙ sym (bytes_at_drop k 8 at u)

module _ (v : IpVersion) (src dst u : List ℕ) where
  abbrev summed : List ℕ
  summed = pseudo_header v src dst (field 2 4 u) ++ take (field 2 4 u) u

  sums : Verifies summed → sum_wrong v src dst u ≡ false
  unfolding sum_wrong covered
  sums h = equals (checksum_of summed) 0 (sym (checksum_0 summed h))

  not_summed : (Verifies summed → ⊥) → sum_wrong v src dst u ≡ true
  unfolding sum_wrong covered
  not_summed h = differs (checksum_of summed) 0 (λ e. h (verifies summed e))

  left_11 : LengthRight u → LeftUdp src dst u v 11
  left_11 right = past_10 src dst u v (udp_rows src dst u v) (length_fits u right)

  -- behind the checksum the probe decides
  onward : LengthRight u → ((v ≡ V4) × (field 2 6 u ≡ 0)) ⊎ ((field 2 6 u ≡ 0 → ⊥) × Verifies summed) → read_probe v src dst u ≡ read_udp v src dst u
  onward right (inl (four, z)) = past_12_unsummed src dst u v (past_11_unsummed src dst u v (left_11 right) (ap must_be_summed four)) z
  onward right (inr (set, h)) = past_12 src dst u v (past_11 src dst u v (left_11 right) set) (sums h)

  body_long : LengthRight u → length (take (field 2 4 u - 8) (drop 8 u)) ≡ field 2 4 u - 8
  body_long (low, high) = length-take-le (field 2 4 u - 8) (drop 8 u) (omega (arith, length-drop 8 u))

  left_14 : LengthRight u → 32 ≤ field 2 4 u → LeftProbe v src dst u 14
  left_14 right long = past_13 v src dst u refl (probe_rows v src dst u) (omega (arith, body_long right))

  tag_is : 32 ≤ field 2 4 u → field 8 0 (take (field 2 4 u - 8) (drop 8 u)) ≡ field 8 8 u
  unfolding payload
  tag_is long = ap value_of (payload_at u 8 0 (omega arith))

  values_are : 32 ≤ field 2 4 u → tpdu_of v src dst u ≡ tpdu_with v src dst (field 2 0 u) (field 2 2 u) (field 8 16 u) (field 8 24 u)
  values_are long =
      ap₂ (λ (s t : List ℕ). tpdu_with v src dst (field 2 0 u) (field 2 2 u) (value_of s) (value_of t)) (payload_at u 8 8 (omega arith)) (payload_at u 8 16 (omega arith))

pub judged_by_rfcs : JudgedByRfcs
judged_by_rfcs v p b reaches =
    let src = source_in v p in
    let dst = destination_in v p in
    let u = part_in v p in
    let is = reached v p b reaches in
    record {
      bad_length = λ bad. sym (row_10 src dst u v (udp_rows src dst u v) (length_refused u bad) ∙ is);
      no_checksum = λ right six z. sym (row_11 src dst u v (left_11 v src dst u right) (ap must_be_summed six) z ∙ is);
      bad_sum = λ right set bad. sym (row_12 src dst u v (past_11 src dst u v (left_11 v src dst u right) set) set (not_summed v src dst u bad) ∙ is);
      too_short = λ right sum short.
          sym (row_13 v src dst u refl (probe_rows v src dst u) (omega (arith, body_long v src dst u right)) ∙ onward v src dst u right sum ∙ is);
      no_probe = λ right sum long other.
          sym (row_14 v src dst u refl refl (left_14 v src dst u right long) (λ e. other (sym (tag_is v src dst u long) ∙ e)) ∙ onward v src dst u right sum ∙ is);
      a_probe = λ right sum long tag.
          sym (ap gives (sym (values_are v src dst u long)) ∙ past_14 v src dst u refl refl (left_14 v src dst u right long) (tag_is v src dst u long ∙ tag)
          ∙ onward v src dst u right sum ∙ is);
    }

-- where the UDP length fills the part, all of it is summed
pub filled_sum : (v : IpVersion) (src dst u : List ℕ) → field 2 4 u ≡ length u → sum_wrong v src dst u ≡ not (eqb (checksum_of (pseudo_header v src dst (length u) ++ u)) 0)
unfolding sum_wrong covered
filled_sum v src dst u fills =
    ap (λ (n : ℕ). not (eqb (checksum_of (pseudo_header v src dst n ++ take n u)) 0)) fills
    ∙ ap (λ (l : List ℕ). not (eqb (checksum_of (pseudo_header v src dst (length u) ++ l)) 0)) (take-length u)

-- ---- padding

module _ (segment padding : List ℕ) (has_header : 8 ≤ length segment) (whole : field 2 4 segment ≡ length segment) where
  abbrev u : List ℕ
  u = segment ++ padding

  in_front : (k at : ℕ) → at + k ≤ length segment → bytes_at k at u ≡ bytes_at k at segment
  in_front k at h = sym (bytes_at_take k (length segment) at u h) ∙ ap (λ (l : List ℕ). bytes_at k at l) (take-append_seam segment padding)

  field_same : (at : ℕ) → at + 2 ≤ length segment → field 2 at u ≡ field 2 at segment
  field_same at h = ap value_of (in_front 2 at h)

  pub udp_length : field 2 4 u ≡ length segment
  udp_length = field_same 4 (omega arith) ∙ whole

  length_same : length_wrong u ≡ length_wrong segment
  length_same =
      length_fits u (omega (arith, udp_length), omega (arith, udp_length, length-append segment padding))
      ∙ sym (length_fits segment (omega (arith, whole), omega (arith, whole)))

  covered_same : covered u ≡ covered segment
  unfolding covered
  covered_same =
      ap (λ (n : ℕ). take n u) udp_length ∙ take-append_seam segment padding
      ∙ sym (ap (λ (n : ℕ). take n segment) whole ∙ take-length segment)

  sum_same : (v : IpVersion) (src dst : List ℕ) → sum_wrong v src dst u ≡ sum_wrong v src dst segment
  unfolding sum_wrong
  sum_same v src dst =
      ap₂ (λ (n : ℕ) (l : List ℕ). not (eqb (checksum_of (pseudo_header v src dst n ++ l)) 0)) (field_same 4 (omega arith)) covered_same

  payload_same : payload u ≡ payload segment
  unfolding payload
  payload_same =
      ap₂ (λ (n : ℕ) (l : List ℕ). take (n - 8) l) (field_same 4 (omega arith)) (drop-append-le 8 segment padding has_header)
      ∙ take-append-le (field 2 4 segment - 8) (drop 8 segment) padding (omega (arith, whole, length-drop 8 segment))

  pub padding_ignored : (v : IpVersion) (src dst : List ℕ) → read_udp v src dst u ≡ read_udp v src dst segment
  unfolding read_udp udp_causes read_probe
  padding_ignored v src dst =
      rw (length_same, sum_same v src dst, payload_same, field_same 0 (omega arith), field_same 2 (omega arith), field_same 6 (omega arith))

module _ (v : IpVersion) (source destination segment padding p : List ℕ) (c : Carries v source destination segment padding p) where
  pub read_without : read_udp v source destination segment ≡ read_of p
  read_without =
      sym (padding_ignored segment padding c.has_header c.udp_length v source destination)
      ∙ ap (λ (u : List ℕ). read_udp v source destination u) (sym c.part_is)
      ∙ ap₂ (λ (src dst : List ℕ). read_udp v src dst (part_in v p)) (sym c.source_is) (sym c.destination_is)
      ∙ reached v p c.bytes c.reaches

pub all_padding_ignored : PaddingIgnored
all_padding_ignored v source destination segment padding other p q c d =
    sym (read_without v source destination segment padding p c) ∙ read_without v source destination segment other q d

pub padding_examples : PaddingExamples
unfolding sum_of folding fold_of checksum_of pseudo_header measurement_magic padded read_of tpdu_causes ihl is_fragment ipv4_causes read_ipv4 ipv6_causes read_ipv6 read_udp read_probe udp_causes probe_causes sum_wrong covered length_wrong payload first_cause
padding_examples = record {
  other_sums_4 = record { whole_part = refl; last_word = refl };
  other_sums_6 = record { whole_part = refl; last_word = refl };
  even_4 = refl;
  odd_4 = refl;
  unsummed_4 = refl;
  whole_part_summed_4 = refl;
  padding_in_the_last_word_4 = refl;
  probe_cut_4 = refl;
  past_the_part_4 = refl;
  even_6 = refl;
  odd_6 = refl;
  unsummed_6 = refl;
  whole_part_summed_6 = refl;
  padding_in_the_last_word_6 = refl;
  probe_cut_6 = refl;
  past_the_part_6 = refl;
}
