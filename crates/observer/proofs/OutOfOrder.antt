-- "Below the highest marked sequence": a row of higher sequence is marked; and on rising rows those of higher sequence stand behind.
use Prim.Native.Nat.{ℕ, zero, suc, ◌<◌, max}
use mathlib.Core.Path.{◌≡◌, refl, ap, ◌∙◌}
use mathlib.Core.List.{List, [], ◌∷◌}
use mathlib.Core.Bool.{Bool, true, false, ◌&&◌, ◌||◌}
use native.Mathlib.Nat.{le_of_suc-le-suc}
use native.Mathlib.Omega.{arith}
use lib.Dec.{eqb, ltb}
use lib.ListN.{length, get_or, drop, length-map}
use borrow.Author.Tests.{lt-ltb, le-ltb, ltb-true, ltb-false}
use Rattle.error.proofs.Tests.{and_right}
use Rattle.observer.specs.Observer.{Row, sequences_of, marks_of}
use Rattle.columns.specs.Columns.{rising}
use Rattle.observer.specs.Place.{highest_marked, marked_above}
use Rattle.columns.specs.Columns.{any_marked}
use Rattle.columns.proofs.Gathering.{and_true}
use Rattle.columns.proofs.Search.{both_left, both_right, rising_tail, head_below}

-- below the highest marked sequence: a row of higher sequence is marked
below_max : (q a b : ℕ) → ltb q (max a b) ≡ (ltb q a || ltb q b)
below_max q a b = go (ltb q a) (ltb q b) refl refl
  where
    go : (x y : Bool) → ltb q a ≡ x → ltb q b ≡ y → ltb q (max a b) ≡ (x || y)
    go true y e f = lt-ltb q (max a b) (omega (arith, ltb-true q a e))
    go false true e f = lt-ltb q (max a b) (omega (arith, ltb-true q b f))
    go false false e f = le-ltb q (max a b) (omega (arith, ltb-false q a e, ltb-false q b f))

pub below_highest : (q : ℕ) (rs : List Row) → ltb q (highest_marked rs) ≡ marked_above q rs
below_highest q [] = le-ltb q 0 (omega arith)
below_highest q (r ∷ rs) = go (eqb r.mark 1) (below_highest q rs)
  where
    go : (b : Bool) → ltb q (highest_marked rs) ≡ marked_above q rs
        → ltb q (elim b [ true ↦ max r.sequence (highest_marked rs) | false ↦ highest_marked rs ]) ≡ ((b && ltb q r.sequence) || marked_above q rs)
    go true e = below_max q r.sequence (highest_marked rs) ∙ ap (λ (x : Bool). ltb q r.sequence || x) e
    go false e = e

-- on rising rows those of higher sequence stand behind
skip : (q x : ℕ) (xs : List ℕ) → rising (q ∷ x ∷ xs) ≡ true → rising (q ∷ xs) ≡ true
skip q x [] e = refl
skip q x (y ∷ ys) e =
    let a : q < x = ltb-true q x (both_left (ltb q x) _ e) in
    let r : rising (x ∷ y ∷ ys) ≡ true = both_right (ltb q x) _ e in
    let b : x < y = ltb-true x y (both_left (ltb x y) _ r) in
    rw (lt-ltb q y (omega arith)) (both_right (ltb x y) _ r)

all_above : (q : ℕ) (rs : List Row) → rising (q ∷ sequences_of rs) ≡ true → marked_above q rs ≡ any_marked (marks_of rs)
all_above q [] e = refl
all_above q (r ∷ rs) e =
    rw (both_left (ltb q r.sequence) _ e, and_true (eqb r.mark 1))
    (ap (λ (b : Bool). eqb r.mark 1 || b) (all_above q rs (skip q r.sequence (sequences_of rs) e)))

pub above_behind : (rs : List Row) (k : ℕ) → rising (sequences_of rs) ≡ true → k < length rs
    → marked_above (get_or (sequences_of rs) k 0) rs ≡ any_marked (drop (suc k) (marks_of rs))
above_behind [] k e h = absurd (omega arith)
above_behind (r ∷ rs) zero e h =
    rw (and_right (eqb r.mark 1) (ltb r.sequence r.sequence) (le-ltb r.sequence r.sequence (omega arith))) (all_above r.sequence rs e)
above_behind (r ∷ rs) (suc k) e h =
    let l : k < length rs = le_of_suc-le-suc h in
    let q : ℕ = get_or (sequences_of rs) k 0 in
    let b : r.sequence < q = head_below r.sequence (sequences_of rs) k e (rw (length-map rs (λ r. r.sequence)) l) in
    rw (and_right (eqb r.mark 1) (ltb q r.sequence) (le-ltb q r.sequence (omega arith)))
    (above_behind rs k (rising_tail r.sequence (sequences_of rs) e) l)
