-- What keeps rows rising and known, and so an observer well formed.
use Prim.Native.Nat.{ℕ, zero, suc, ◌≤◌, ◌<◌}
use mathlib.Core.Path.{◌≡◌, refl, sym, ap, ◌∙◌}
use mathlib.Core.List.{List, [], ◌∷◌, ◌++◌}
use mathlib.Core.Bool.{Bool, true, false, ◌&&◌}
use native.Mathlib.Nat.{le_of_suc-le-suc}
use native.Mathlib.Omega.{arith}
use lib.Dec.{eqb, ltb, leb}
use lib.ListN.{length, get_or, set, take, drop, length-set}
use lib.Seq.{map-set_same}
use borrow.Author.Tests.{lt-ltb, le-leb, ltb-true, ltb-false, eqb-false, leb-true}
use Rattle.error.proofs.Tests.{and_both}
use Rattle.observer.specs.Observer.{Row, Observer, capacity, rows, row_at, sent_row, with_rows, with_counts, sequences_of}
use Rattle.columns.specs.Columns.{rising}
use Rattle.observer.specs.Judge.{row_known, rows_known, well_formed}
use Rattle.columns.specs.Place.{place, holds}
use Rattle.observer.specs.Place.{place_of, was_sent}
use Rattle.observer.specs.declared.ObserverCounts.{ObserverCounts}
use Rattle.columns.proofs.Search.{both_left, both_right, rising_tail, place_within}
use Rattle.observer.proofs.Rows.{rows_with, capacity_with, counts_with, put_in, length_put, map_put}

-- ---- rising

-- k is the place of q: what stands before it is below q, and what stands there is not
pub record Parts (q : ℕ) (xs : List ℕ) (k : ℕ) : Type 0 where
  pub below : (i : ℕ) → i < k → get_or xs i 0 < q
  pub above : k < length xs → q ≤ get_or xs k 0

pub place_parts : (q : ℕ) (xs : List ℕ) → Parts q xs (place q xs)
place_parts q [] = record { below = λ i h. absurd (omega arith); above = λ h. absurd (omega arith) }
place_parts q (x ∷ xs) = go (ltb x q) refl (place_parts q xs)
  where
    one_more_lem : (k : ℕ) → Parts q xs k → x < q → (i : ℕ) → i < suc k → get_or (x ∷ xs) i 0 < q
    one_more_lem k p g zero h = g
    one_more_lem k p g (suc i) h = p.below i (le_of_suc-le-suc h)

    go : (b : Bool) → ltb x q ≡ b → Parts q xs (place q xs) → Parts q (x ∷ xs) (elim b [ true ↦ suc (place q xs) | false ↦ 0 ])
    go true e p = record { below = one_more_lem (place q xs) p (ltb-true x q e); above = λ h. p.above (le_of_suc-le-suc h) }
    go false e p = record { below = λ i h. absurd (omega arith); above = λ h. ltb-false x q e }

-- a number put in at k, above what stands before it and below what stands there
put_at : (q : ℕ) (xs : List ℕ) (k : ℕ) → rising xs ≡ true → k ≤ length xs → ((i : ℕ) → i < k → get_or xs i 0 < q) → (k < length xs → q < get_or xs k 0)
    → rising (take k xs ++ q ∷ drop k xs) ≡ true
put_at q [] zero r h below above = refl
put_at q [] (suc k) r h below above = absurd (omega arith)
put_at q (x ∷ xs) zero r h below above = and_both _ _ (lt-ltb q x (above (omega arith))) r
put_at q (x ∷ xs) (suc zero) r h below above =
    and_both (ltb x q) _ (lt-ltb x q (below 0 (omega arith)))
    (put_at q xs zero (rising_tail x xs r) (le_of_suc-le-suc h) (λ i g. absurd (omega arith)) (λ g. above (omega arith)))
put_at q (x ∷ []) (suc (suc k)) r h below above = absurd (omega arith)
put_at q (x ∷ y ∷ xs) (suc (suc k)) r h below above =
    and_both (ltb x y) _ (both_left (ltb x y) _ r)
    (put_at q (y ∷ xs) (suc k) (both_right (ltb x y) _ r) (le_of_suc-le-suc h) (λ i g. below (suc i) (omega arith)) (λ g. above (omega arith)))

-- a new sequence put in at its place
put_rising : (q : ℕ) (xs : List ℕ) → rising xs ≡ true → holds q (place q xs) xs ≡ false
    → rising (take (place q xs) xs ++ q ∷ drop (place q xs) xs) ≡ true
unfolding holds
put_rising q xs r h =
    let k : ℕ = place q xs in
    let p = place_parts q xs in
    put_at q xs k r (place_within q xs) p.below
    (λ g. let n : eqb (get_or xs k 0) q ≡ false = sym (ap (λ (b : Bool). b && eqb (get_or xs k 0) q) (lt-ltb k (length xs) g)) ∙ h in
    omega (arith, p.above g, eqb-false (get_or xs k 0) q n))

-- ---- known

set_known : (rs : List Row) (k : ℕ) (r : Row) → rows_known rs ≡ true → row_known r ≡ true → rows_known (set rs k r) ≡ true
set_known [] k r h e = refl
set_known (x ∷ rs) zero r h e = and_both _ _ e (both_right (row_known x) _ h)
set_known (x ∷ rs) (suc k) r h e = and_both _ _ (both_left (row_known x) _ h) (set_known rs k r (both_right (row_known x) _ h) e)

put_known : (rs : List Row) (k : ℕ) (r : Row) → rows_known rs ≡ true → row_known r ≡ true → rows_known (put_in k r rs) ≡ true
put_known rs zero r h e = and_both _ _ e h
put_known [] (suc k) r h e = and_both _ _ e refl
put_known (x ∷ rs) (suc k) r h e = and_both _ _ (both_left (row_known x) _ h) (put_known rs k r (both_right (row_known x) _ h) e)

known_at : (rs : List Row) (k : ℕ) → rows_known rs ≡ true → row_known (row_at k rs) ≡ true
known_at [] k h = refl
known_at (r ∷ rs) zero h = both_left (row_known r) _ h
known_at (r ∷ rs) (suc k) h = known_at rs k (both_right (row_known r) _ h)

-- ---- well formed

-- what the judgement says of the rows
pub record WellRows (o : Observer) : Type 0 where
  pub fits : o.counts.used ≤ capacity o
  pub rises : rising (sequences_of (rows o)) ≡ true
  pub known : rows_known (rows o) ≡ true

pub well_rows : (o : Observer) → well_formed o ≡ true → WellRows o
unfolding well_formed
well_rows o e =
    let both = both_right (leb o.counts.used (capacity o)) _ e in
    record {
      fits = leb-true o.counts.used (capacity o) (both_left _ _ e);
      rises = both_left (rising (sequences_of (rows o))) _ both;
      known = both_right (rising (sequences_of (rows o))) _ both;
    }

pub rows_well : (rs : List Row) (o : Observer) → length rs ≤ capacity o → rising (sequences_of rs) ≡ true → rows_known rs ≡ true
    → well_formed (with_rows rs o) ≡ true
unfolding well_formed
rows_well rs o h r k =
    let used : (with_rows rs o).counts.used ≡ length rs = ap (λ (c : ObserverCounts). c.used) (counts_with rs o) in
    and_both _ _ (le-leb (with_rows rs o).counts.used (capacity (with_rows rs o)) (omega (arith, capacity_with rs o h)))
    (and_both _ _ (ap (λ (l : List Row). rising (sequences_of l)) (rows_with rs o) ∙ r) (ap rows_known (rows_with rs o) ∙ k))

-- counters alone
pub counts_well : (c : ObserverCounts) (o : Observer) → c.used ≡ o.counts.used → well_formed (with_counts c o) ≡ well_formed o
unfolding well_formed capacity rows
counts_well c o e = rw e

-- row k is another, of the same sequence
pub set_well : (o : Observer) (c : ObserverCounts) (k : ℕ) (r : Row) → WellRows o → length (rows o) ≡ o.counts.used
    → r.sequence ≡ (row_at k (rows o)).sequence → row_known r ≡ true → well_formed (with_rows (set (rows o) k r) (with_counts c o)) ≡ true
unfolding capacity
set_well o c k r w l e m =
    rows_well (set (rows o) k r) (with_counts c o) (omega (arith, length-set (rows o) k r, w.fits))
    (rw (map-set_same (λ x. x.sequence) (rows o) k r (sent_row 0 0) e) w.rises) (set_known (rows o) k r w.known m)

-- a new row
pub put_well : (o : Observer) (q t : ℕ) → WellRows o → length (rows o) ≡ o.counts.used → (o.counts.used ≡ capacity o → ⊥)
    → was_sent q (rows o) ≡ false → well_formed (with_rows (put_in (place_of q (rows o)) (sent_row q t) (rows o)) o) ≡ true
put_well o q t w l f e =
    rows_well (put_in (place_of q (rows o)) (sent_row q t) (rows o)) o (omega (arith, length_put (place_of q (rows o)) (sent_row q t) (rows o), w.fits))
    (rw (map_put (λ r. r.sequence) (rows o) (place_of q (rows o)) (sent_row q t)) (put_rising q (sequences_of (rows o)) w.rises e))
    (put_known (rows o) (place_of q (rows o)) (sent_row q t) w.known refl)

pub row_known_lem : (o : Observer) (k : ℕ) → WellRows o → row_known (row_at k (rows o)) ≡ true
row_known_lem o k w = known_at (rows o) k w.known
