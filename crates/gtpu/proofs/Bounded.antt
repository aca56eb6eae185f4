-- A walk over elements whose recursion is bounded by a number: any bound that is no less than the list's length is
-- enough, so what follows an element is read by the same rule. One law for every such walk.
use Prim.Native.Nat.{ℕ, zero, suc, ◌<◌, ◌≤◌}
use native.Mathlib.Omega.{arith}
use mathlib.Core.Path.{◌≡◌, refl, sym, ap, ◌∙◌}
use mathlib.Core.List.{List, [], ◌∷◌}
use lib.ListN.{length, drop, length-drop}
use Rattle.error.specs.Outcome.{Outcome, refused, gives, first_cause}
use Rattle.error.proofs.Causes.{passes}
use Rattle.gtpu.specs.Element.{element_size, element_causes, element_of}
use Rattle.gtpu.proofs.Rows.{size_positive, sound, refused_by}

-- every element has at least one byte
pub rest_shorter : (b : ℕ) (l : List ℕ) (bound : ℕ) → suc (length l) ≤ suc bound → length (drop (element_size (b ∷ l)) (b ∷ l)) ≤ bound
rest_shorter b l bound h = omega (arith, length-drop (element_size (b ∷ l)) (b ∷ l), size_positive (b ∷ l))

-- the walk, what it answers at the end, what it carries behind an element, and what it makes of the answer for the rest
module _ {S A : Type 0} (W : ℕ → S → List ℕ → A) (end : S → A) (next : S → List ℕ → S) (whole : List ℕ → A → A)
    (none_left : (s : S) (l : List ℕ) → W zero s l ≡ end s) (empty : (n : ℕ) (s : S) → W (suc n) s [] ≡ end s)
    (one_more_lem : (n : ℕ) (s : S) (b : ℕ) (l : List ℕ) → W (suc n) s (b ∷ l) ≡ whole (b ∷ l) (W n (next s (b ∷ l)) (drop (element_size (b ∷ l)) (b ∷ l)))) where
  enough : (m n : ℕ) (s : S) (l : List ℕ) → length l ≤ m → length l ≤ n → W m s l ≡ W n s l
  enough zero zero s l h k = refl
  enough zero (suc n) s [] h k = none_left s [] ∙ sym (empty n s)
  enough zero (suc n) s (b ∷ l) h k = absurd (omega arith)
  enough (suc m) zero s [] h k = empty m s ∙ sym (none_left s [])
  enough (suc m) zero s (b ∷ l) h k = absurd (omega arith)
  enough (suc m) (suc n) s [] h k = empty m s ∙ sym (empty n s)
  enough (suc m) (suc n) s (b ∷ l) h k =
      one_more_lem m s b l
      ∙ ap (whole (b ∷ l)) (enough m n (next s (b ∷ l)) (drop (element_size (b ∷ l)) (b ∷ l)) (rest_shorter b l m h) (rest_shorter b l n k))
      ∙ sym (one_more_lem n s b l)

  pub ends_at : (s : S) (l : List ℕ) → length l ≡ 0 → W (length l) s l ≡ end s
  ends_at s [] e = none_left s []
  ends_at s (b ∷ l) e = absurd (omega arith)

  pub goes_on : (s : S) (l : List ℕ) → 0 < length l
      → W (length l) s l ≡ whole l (W (length (drop (element_size l) l)) (next s l) (drop (element_size l) l))
  goes_on s [] h = absurd (omega arith)
  goes_on s (b ∷ l) h =
      let rest = drop (element_size (b ∷ l)) (b ∷ l) in
      one_more_lem (length l) s b l
      ∙ ap (whole (b ∷ l)) (enough (length l) (length rest) (next s (b ∷ l)) rest (rest_shorter b l (length l) (omega arith)) (omega arith))

-- a walk that is refused by the first element that has a cause, and else goes by the answer for the rest: its laws
pub record Laws {S A : Type 0} (over : S → List ℕ → Outcome A) (end : S → Outcome A) (next : S → List ℕ → S) : Type 0 where
  pub ends : (s : S) (l : List ℕ) → length l ≡ 0 → end s ≡ over s l
  -- what follows an element is read by the same rule
  pub onward : (s : S) (l : List ℕ) → 0 < length l → over s l ≡ first_cause (element_causes l) (over (next s l) (drop (element_size l) l))
  -- a refused element refuses the list; a sound one hands on to the rest
  pub refuses : (s : S) (l : List ℕ) (n : ℕ) → 0 < length l → refused n ≡ element_of l → refused n ≡ over s l
  pub follows : (s : S) (l : List ℕ) (n : ℕ) → 0 < length l → gives n ≡ element_of l → over (next s l) (drop n l) ≡ over s l

module _ {S A : Type 0} (W : ℕ → S → List ℕ → Outcome A) (end : S → Outcome A) (next : S → List ℕ → S)
    (none_left : (s : S) (l : List ℕ) → W zero s l ≡ end s) (empty : (n : ℕ) (s : S) → W (suc n) s [] ≡ end s)
    (one_more_lem : (n : ℕ) (s : S) (b : ℕ) (l : List ℕ)
    → W (suc n) s (b ∷ l) ≡ first_cause (element_causes (b ∷ l)) (W n (next s (b ∷ l)) (drop (element_size (b ∷ l)) (b ∷ l)))) where
  abbrev over : S → List ℕ → Outcome A
  over s l = W (length l) s l

  abbrev judged : List ℕ → Outcome A → Outcome A
  judged l o = first_cause (element_causes l) o

  on : (s : S) (l : List ℕ) → 0 < length l → over s l ≡ judged l (over (next s l) (drop (element_size l) l))
  on s l h = goes_on W end next judged none_left empty one_more_lem s l h

  pub laws : Laws over end next
  laws = record {
    ends = λ s l e. sym (ends_at W end next judged none_left empty one_more_lem s l e);
    onward = on;
    refuses = λ s l n h e. refused_by (element_causes l) (element_size l) n _ e ∙ sym (on s l h);
    follows = λ s l n h e.
        let r = sound l n e in
        ap (λ (k : ℕ). over (next s l) (drop k l)) r.size ∙ passes _ r.passes ∙ sym (on s l h);
  }
