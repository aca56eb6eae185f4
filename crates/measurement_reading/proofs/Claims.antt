-- The claims of specs/Claims.antt.
use Prim.Native.Nat.{ℕ, ◌+◌, ◌*◌, ◌<◌, ◌≤◌}
use native.Mathlib.Omega.{arith}
use mathlib.Core.Path.{◌≡◌, refl, sym, ap, ◌∙◌}
use mathlib.Core.List.{List, ◌∷◌}
use mathlib.Core.Bool.{Bool, true, false, ◌||◌, ◌&&◌}
use mathlib.Core.Logic.{◌⊎◌, inl, inr}
use lib.Dec.{eqb, ltb}
use lib.ListN.{length}
use borrow.Author.Tests.{eqb-true, ltb-true}
use Rattle.error.specs.Outcome.{refused, outcome_number, first_cause}
use Rattle.error.proofs.Among.{of_each}
use Rattle.error.proofs.Tests.{true_not_false, both}
use Rattle.checksum.specs.Sum.{sum_of, folding, fold_of, checksum_of}
use Rattle.checksum.proofs.Carries.{split}
use Rattle.measurement_reading.specs.Read.{payload, length_wrong, covered, sum_wrong, probe_causes, udp_causes, read_probe, read_udp, ihl, is_fragment, ipv4_causes, read_ipv4, tpdu_causes, read_of}
use Rattle.measurement_reading.specs.Claims.{ReadingNumbers, ipv4_packet, TwoCauses, CutIsNot4, CutExamples}
use Rattle.measurement_reading.proofs.Rows.{LeftIpv4, ipv4_rows, row_3, past_3, row_4, past_4, row_39, past_39, read_as_ipv4}
use Rattle.measurement_reading.proofs.Numbers.{part_numbers, reading_numbers, left_by_lem, read_by}

pub reading_numbers_lem : ReadingNumbers
reading_numbers_lem p n e =
    by (eqb n 38) refl (eqb n 39) refl (of_each (λ m. eqb m 38 || (eqb m 39 || (ltb 0 m && ltb m 15))) reading_numbers refl n (read_by p n e))
  where
    by : (s : Bool) → eqb n 38 ≡ s → (t : Bool) → eqb n 39 ≡ t → s || (t || (ltb 0 n && ltb n 15)) ≡ true → ((1 ≤ n) × (n ≤ 14)) ⊎ (n ≡ 38) ⊎ (n ≡ 39)
    by true f t g e = inr (inl (eqb-true n 38 f))
    by false f true g e = inr (inr (eqb-true n 39 g))
    by false f false g e =
        let p = both (ltb 0 n) (ltb n 15) e in
        let low = ltb-true 0 n p.0 in
        let high = ltb-true n 15 p.1 in
        inl (omega arith, omega arith)

module _ (k : ℕ) (behind : List ℕ) (small : k < 16) where
  abbrev p : List ℕ
  p = ipv4_packet k behind

  is_ipv4 : read_ipv4 p ≡ read_of p
  is_ipv4 = read_as_ipv4 p (omega arith)

  k_is : k ≡ ihl p
  unfolding ihl
  k_is = omega arith

  left_4 : 20 ≤ length p → LeftIpv4 p 4
  left_4 = past_3 p (ipv4_rows p)

  left_39 : 20 ≤ length p → 5 ≤ k → LeftIpv4 p 39
  left_39 h l = past_4 p k_is (left_4 h) l

  by_3 : length p < 20 → refused 3 ≡ read_of p
  by_3 h = row_3 p (ipv4_rows p) h ∙ is_ipv4

  by_4 : 20 ≤ length p → k < 5 → refused 4 ≡ read_of p
  by_4 h l = row_4 p k_is (left_4 h) l ∙ is_ipv4

  by_39 : 20 ≤ length p → 5 ≤ k → length p < k * 4 + 8 → refused 39 ≡ read_of p
  by_39 h l s = row_39 p k_is (left_39 h l) s ∙ is_ipv4

  -- behind 4, and behind 39, the other rows have other numbers
  not_4 : 20 ≤ length p → 5 ≤ k → read_of p ≡ refused 4 → ⊥
  unfolding ipv4_causes
  not_4 h l e = true_not_false (sym (left_by_lem p (39 ∷ 5 ∷ 6 ∷ 7 ∷ 38 ∷ part_numbers) 39 (left_39 h l) refl refl 4 (is_ipv4 ∙ e)))

  not_39 : 20 ≤ length p → 5 ≤ k → k * 4 + 8 ≤ length p → read_of p ≡ refused 39 → ⊥
  unfolding ipv4_causes
  not_39 h l s e = true_not_false (sym (left_by_lem p (5 ∷ 6 ∷ 7 ∷ 38 ∷ part_numbers) 5 (past_39 p k_is (left_39 h l) s) refl refl 39 (is_ipv4 ∙ e)))

  differ : {n m : ℕ} → refused n ≡ read_of p → read_of p ≡ refused m → n ≡ m
  differ e f = ap outcome_number (e ∙ f)

  two_causes : TwoCauses k p
  two_causes = record {
    bad_ihl = λ h l. sym (by_4 h l);
    only_bad_ihl = λ e.
        split (length p) 20 (λ h. absurd (let z = differ (by_3 h) e in omega arith))
        (λ h. split k 5 (λ l. (h, l)) (λ l. absurd (not_4 h l e)));
    cut = λ h l s. sym (by_39 h l s);
    only_cut = λ e.
        split (length p) 20 (λ h. absurd (let z = differ (by_3 h) e in omega arith))
        (λ h. split k 5 (λ l. absurd (let z = differ (by_4 h l) e in omega arith))
        (λ l. split (length p) (k * 4 + 8) (λ s. (h, l, s)) (λ s. absurd (not_39 h l s e))));
  }

pub cut_is_not_4 : CutIsNot4
cut_is_not_4 = two_causes

pub cut_examples : CutExamples
unfolding sum_of folding fold_of checksum_of read_of tpdu_causes ihl is_fragment ipv4_causes read_ipv4 read_udp read_probe udp_causes probe_causes sum_wrong covered length_wrong payload first_cause
cut_examples = record {
  of_28_bytes = refl;
  of_27_bytes = refl;
  of_20_bytes = refl;
  of_19_bytes = refl;
  of_68_bytes = refl;
  of_67_bytes = refl;
  ihl_4_of_20_bytes = refl;
  ihl_4_of_19_bytes = refl;
}
