-- Numbers of a list that is written out, so that what holds of each is computed; and rows that refuse only by such numbers.
use Prim.Native.Nat.{ℕ}
use mathlib.Core.Path.{◌≡◌, refl, sym, ap, ◌∙◌}
use mathlib.Core.Bool.{Bool, true, false, ◌||◌, ◌&&◌}
use mathlib.Core.List.{List, [], ◌∷◌}
use lib.Dec.{eqb}
use borrow.Author.Tests.{eqb-true}
use Rattle.error.specs.Outcome.{Outcome, refused, Cause, ◌⇒◌, first_cause}
use Rattle.error.proofs.Tests.{true_not_false, both}

abbrev pub among : ℕ → List ℕ → Bool
among n [] = false
among n (m ∷ list) = eqb n m || among n list

abbrev pub holds : (ℕ → Bool) → List ℕ → Bool
holds test [] = true
holds test (m ∷ list) = test m && holds test list

-- a test that is computed of each number of a list
pub of_each : (test : ℕ → Bool) (list : List ℕ) → holds test list ≡ true → (n : ℕ) → among n list ≡ true → test n ≡ true
of_each test [] h n e = absurd (true_not_false (sym e))
of_each test (m ∷ list) h n e = by (eqb n m) refl e (of_each test list (both (test m) (holds test list) h).1 n)
  where
    by : (t : Bool) → eqb n m ≡ t → t || among n list ≡ true → (among n list ≡ true → test n ≡ true) → test n ≡ true
    by true f e rest = ap test (eqb-true n m f) ∙ (both (test m) (holds test list) h).0
    by false f e rest = rest e

-- rows whose numbers are all of a list: they refuse by one of these, if what follows them does
abbrev pub within : List ℕ → List Cause → Bool
within numbers [] = true
within numbers ((test ⇒ n) ∷ rows) = among n numbers && within numbers rows

pub by_one_of : {A : Type 0} (numbers : List ℕ) (rows : List Cause) (o : Outcome A) → within numbers rows ≡ true
    → ((n : ℕ) → o ≡ refused n → among n numbers ≡ true) → (n : ℕ) → first_cause rows o ≡ refused n → among n numbers ≡ true
unfolding first_cause
by_one_of numbers [] o w h n e = h n e
by_one_of numbers ((true ⇒ m) ∷ rows) o w h n e =
    let same : m ≡ n = cc in
    ap (λ (k : ℕ). among k numbers) (sym same) ∙ (both (among m numbers) (within numbers rows) w).0
by_one_of numbers ((false ⇒ m) ∷ rows) o w h n e = by_one_of numbers rows o (both (among m numbers) (within numbers rows) w).1 h n e
