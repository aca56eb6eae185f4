-- Rows of consecutive sequences, and a row of higher sequence that is marked.
use Prim.Native.Nat.{ℕ, zero, suc, ◌+◌, ◌<◌}
use native.Mathlib.Nat.{add-zero, add-suc, suc-add, not-suc-le-zero, le_of_suc-le-suc}
use native.Mathlib.Omega.{arith}
use mathlib.Core.Path.{◌≡◌, refl, sym, ap₂, ◌∙◌}
use mathlib.Core.Bool.{Bool, true, false, ◌&&◌, ◌||◌}
use mathlib.Core.List.{List, [], ◌∷◌, ◌++◌}
use lib.Dec.{ltb, eqb}
use lib.ListN.{length, set}
use Rattle.observer.specs.Observer.{Row, row_at}
use Rattle.observer.specs.Place.{highest_marked, marked_above}
use Rattle.observer.proofs.Claims.{below_highest_marked}
use Rattle.tally.specs.Tally.{higher_marked}

-- the rows' sequences are q, q + 1, ..
abbrev pub Consecutive : ℕ → List Row → Type 0
Consecutive q [] = Unit {0}
Consecutive q (r ∷ rs) = (r.sequence ≡ q) × Consecutive (suc q) rs

pub sequence_is : (rs : List Row) (q k : ℕ) → Consecutive q rs → k < length rs → (row_at k rs).sequence ≡ q + k
sequence_is [] q k c h = absurd (not-suc-le-zero h)
sequence_is (r ∷ rs) q zero c h = omega (arith, c.0)
sequence_is (r ∷ rs) q (suc k) c h = sequence_is rs (suc q) k c.1 (le_of_suc-le-suc h) ∙ suc-add q k ∙ sym (add-suc q k)

pub consecutive_set : (rs : List Row) (q k : ℕ) (r : Row) → Consecutive q rs → r.sequence ≡ (row_at k rs).sequence → Consecutive q (set rs k r)
consecutive_set [] q k r c e = tt
consecutive_set (x ∷ rs) q zero r c e = (e ∙ c.0, c.1)
consecutive_set (x ∷ rs) q (suc k) r c e = (c.0, consecutive_set rs (suc q) k r c.1 e)

pub consecutive_snoc : (rs : List Row) (q : ℕ) (r : Row) → Consecutive q rs → r.sequence ≡ q + length rs → Consecutive q (rs ++ r ∷ [])
consecutive_snoc [] q r c e = (e ∙ add-zero q, tt)
consecutive_snoc (x ∷ rs) q r c e = (c.0, consecutive_snoc rs (suc q) r c.1 (omega arith))

both : (a b : Bool) → (b && a) ≡ (a && b)
both true true = refl
both true false = refl
both false true = refl
both false false = refl

above : (q : ℕ) (rs : List Row) → marked_above q rs ≡ higher_marked q rs
above q [] = refl
above q (r ∷ rs) = ap₂ (λ (x y : Bool). x || y) (both (ltb q r.sequence) (eqb r.mark 1)) (above q rs)

-- "below the highest marked sequence" (leaf 6): "a row of higher sequence is marked" (the tally)
pub higher_is : (q : ℕ) (rs : List Row) → ltb q (highest_marked rs) ≡ higher_marked q rs
higher_is q rs = below_highest_marked q rs ∙ above q rs
