-- Where a sequence stands, and what "below the highest marked sequence" means.
use Rattle.std.specs.Prelude.{ℕ, max, List, [], ◌∷◌, Bool, true, false, ◌&&◌, ◌||◌, ltb, eqb}
use Rattle.columns.specs.Place.{place, holds}
use Rattle.observer.specs.Observer.{Row, row_at, sequences_of}

-- where a sequence stands: how many rows stand before it
abbrev pub place_of : ℕ → List Row → ℕ
place_of q rs = place q (sequences_of rs)

-- The sequence is on the sheet.
abbrev pub was_sent : ℕ → List Row → Bool
was_sent q rs = holds q (place_of q rs) (sequences_of rs)

-- the row of a sequence that is on the sheet
abbrev pub row_of : ℕ → List Row → Row
row_of q rs = row_at (place_of q rs) rs

-- "the highest marked sequence"; 0, which no sequence is below, if none is marked
abbrev pub highest_marked : List Row → ℕ
highest_marked [] = 0
highest_marked (r ∷ rs) =
    elim (eqb r.mark 1) [ true ↦ max r.sequence (highest_marked rs) | false ↦ highest_marked rs ]

-- Some row of a higher sequence is marked. On every list of rows this is "below the highest marked sequence"
-- (specs/Claims.antt).
abbrev pub marked_above : ℕ → List Row → Bool
marked_above q [] = false
marked_above q (r ∷ rs) = (eqb r.mark 1 && ltb q r.sequence) || marked_above q rs
