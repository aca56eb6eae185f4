-- The claims of specs/Fragments.antt.
use Prim.Native.Nat.{ℕ, ◌+◌, ◌*◌, ◌/◌}
use native.Mathlib.Omega.{arith}
use mathlib.Core.Path.{◌≡◌, refl, sym, ◌∙◌}
use mathlib.Core.List.{List, [], ◌∷◌}
use mathlib.Core.Bool.{Bool, true, false, not, ◌||◌}
use mathlib.Core.Logic.{◌⊎◌, inl, inr}
use lib.Dec.{eqb}
use lib.ListN.{take, get_or}
use borrow.Author.Tests.{eqb-true, eqb-false, eq-eqb}
use Rattle.error.specs.Outcome.{Outcome, refused, ◌⇒◌, first_cause}
use Rattle.error.proofs.Causes.{passed_before}
use Rattle.error.proofs.Tests.{true_not_false, or_left, or_right, differs}
use Rattle.field.specs.Field.{Bytes, field}
use Rattle.field.proofs.Fields.{byte_of}
use Rattle.measurement.specs.declared.DecodedTpdu.{DecodedTpdu}
use Rattle.measurement.specs.declared.IpVersion.TheVariants.{V4}
use Rattle.measurement_reading.specs.Read.{ihl, more_fragments, fragment_offset, is_fragment, ipv4_causes, read_ipv4, ipv6_causes, read_ipv6, tpdu_causes, read_of}
use Rattle.measurement_reading.specs.Fragments.{IsIpv4, Fragment, HeaderRight, NoEarlierCause, FragmentsNotRead, RefusedAsFragment}
use Rattle.measurement_reading.proofs.Rows.{onward4, LeftIpv4, ipv4_rows, past_3, past_4, past_39, past_5, past_6_ipv4, past_7, row_38, read_as_ipv4}
use Rattle.measurement_reading.proofs.Numbers.{part_numbers, part_by, ipv6_by}
use Rattle.measurement_reading.proofs.Accept.{checksum_0, header_right, Accepted4, Accepted6, accepted}

-- the test is the claim's, of bytes
module _ (p : List ℕ) (b : Bytes p) where
  pub is_fragment_lem : Fragment p → is_fragment p ≡ true
  unfolding is_fragment
  is_fragment_lem (inl more) =
      or_left (eqb (more_fragments p) 1) (not (eqb (fragment_offset p) 0)) (eq-eqb (more_fragments p) 1 (omega (arith, byte_of p 6 b, byte_of p 7 b)))
  is_fragment_lem (inr offset) =
      or_right (eqb (more_fragments p) 1) (not (eqb (fragment_offset p) 0))
      (differs (fragment_offset p) 0 (λ z. offset (omega (arith, byte_of p 6 b, byte_of p 7 b))))

  pub fragment_is : is_fragment p ≡ true → Fragment p
  unfolding is_fragment
  fragment_is = by (eqb (more_fragments p) 1) refl (eqb (fragment_offset p) 0) refl
    where
      by : (more : Bool) → eqb (more_fragments p) 1 ≡ more → (none : Bool) → eqb (fragment_offset p) 0 ≡ none → more || not none ≡ true → Fragment p
      by true f none g e = inl (omega (arith, eqb-true (more_fragments p) 1 f, byte_of p 6 b, byte_of p 7 b))
      by false f true g e = absurd (true_not_false (sym e))
      by false f false g e = inr (λ z. eqb-false (fragment_offset p) 0 g (omega (arith, byte_of p 6 b, byte_of p 7 b)))

-- where a header is right, the rows from 38 on are left
pub left_38 : (p : List ℕ) {k : ℕ} → k ≡ ihl p → {n : ℕ} → n ≡ field 2 2 p → HeaderRight k n p → LeftIpv4 p 38
left_38 p {k} ek en h =
    let left_4 = past_3 p (ipv4_rows p) h.not_3 in
    let left_39 = past_4 p ek left_4 h.not_4 in
    let left_5 = past_39 p ek left_39 h.not_39 in
    let left_6 = past_5 p ek en left_5 h.not_5.0 h.not_5.1 in
    let left_7 = past_6_ipv4 p left_6 h.not_6 in
    past_7 p ek (checksum_0 (take (k * 4) p) h.not_7) left_7 refl

module _ (p : List ℕ) where
  pub length_is : get_or p 2 0 * 256 + get_or p 3 0 ≡ field 2 2 p
  length_is = omega arith

  -- the same header, by the packet's bytes
  pub no_earlier_cause : HeaderRight (ihl p) (field 2 2 p) p → NoEarlierCause p
  unfolding ihl
  no_earlier_cause h = rw (← length_is) at h

  -- a refusal by 38 is one of version 4, and of its row
  of_ipv4 : read_of p ≡ refused 38 → IsIpv4 p × (read_ipv4 p ≡ refused 38)
  unfolding read_of tpdu_causes ipv6_causes first_cause
  of_ipv4 e = by (eqb (get_or p 0 0 / 16) 4) refl (passed_before 38 (tpdu_causes p) _ e).1
    where
      by : (four : Bool) → eqb (get_or p 0 0 / 16) 4 ≡ four → ◌≡◌ {A = Outcome DecodedTpdu} (elim four [ true ↦ read_ipv4 p | false ↦ read_ipv6 p ]) (refused 38)
          → IsIpv4 p × (read_ipv4 p ≡ refused 38)
      by true f e = (eqb-true (get_or p 0 0 / 16) 4 f, e)
      by false f e = absurd (true_not_false (sym (ipv6_by p (8 ∷ 6 ∷ 9 ∷ part_numbers) refl refl 38 e)))

  of_row : read_ipv4 p ≡ refused 38 → HeaderRight (ihl p) (field 2 2 p) p × (is_fragment p ≡ true)
  unfolding read_ipv4 ipv4_causes first_cause
  of_row e =
      let q = passed_before 38 (ipv4_causes p) _ e in
      (header_right p q.0, by (is_fragment p) refl q.1)
    where
      by : (t : Bool) → is_fragment p ≡ t → first_cause ((t ⇒ 38) ∷ []) (onward4 p) ≡ refused 38 → is_fragment p ≡ true
      by true f e = f
      by false f e = absurd (true_not_false (sym (part_by V4 _ _ _ 38 e)))

pub fragments_not_read : FragmentsNotRead
fragments_not_read p b v f r e = by (accepted p r e)
  where
    by : ((get_or p 0 0 / 16 ≡ 4) × Accepted4 p r) ⊎ ((get_or p 0 0 / 16 ≡ 6) × Accepted6 p r) → ⊥
    by (inl a) = true_not_false (sym (is_fragment_lem p b f) ∙ a.1.whole)
    by (inr a) = omega (arith, a.0)

pub refused_as_fragment : RefusedAsFragment
unfolding ihl
refused_as_fragment = record {
  where_due = λ p b v h f. sym (row_38 p (left_38 p refl (length_is p) h) (is_fragment_lem p b f) ∙ read_as_ipv4 p v);
  only_where_due = λ p b e.
      let v = of_ipv4 p e in
      let r = of_row p v.1 in
      (v.0, no_earlier_cause p r.0, fragment_is p b r.1);
}
