-- Cause 21 judged on the columns, and what an observer has that passes: its rows, their room, and the search for a sequence.
use Prim.Native.Nat.{ℕ, zero, suc, ◌≤◌, ◌<◌}
use mathlib.Core.Path.{◌≡◌, refl, sym, ap, ◌∙◌}
use mathlib.Core.List.{List, [], ◌∷◌, map}
use mathlib.Core.Bool.{Bool, true, false, ◌&&◌, ◌||◌}
use native.Mathlib.Omega.{arith}
use lib.Dec.{ltb, eqb}
use lib.ListN.{take}
use lib.Seq.{length-take-le}
use borrow.Author.Tests.{le-leb, lt-leb, le-ltb, ne_eqb, leb-true}
use Rattle.observer.specs.Observer.{Row, Observer, capacity, rows, marks_of, arrivals_of}
use Rattle.columns.specs.Columns.{rising}
use Rattle.observer.specs.Judge.{rows_known, well_formed}
use Rattle.columns.specs.Place.{place, holds}
use Rattle.observer.specs.Place.{place_of, was_sent}
use Rattle.columns.specs.Columns.{return_known, returns_known}
use Rattle.rows.proofs.Within.{Within}
use Rattle.observer.proofs.Rows.{Fronts, room_for, rows_are}
use Rattle.columns.proofs.Search.{both_left, place_within}

-- a row is known where its two columns say so
known_is : (m t : ℕ) → ltb m 2 && (eqb m 1 || eqb t 0) ≡ return_known m t
known_is m t = go m (eqb t 0)
  where
    go : (m : ℕ) (b : Bool) → ltb m 2 && (eqb m 1 || b) ≡ (eqb m 1 || (eqb m 0 && b))
    go zero b = refl
    go (suc zero) b = refl
    go (suc (suc m)) b =
        rw (
          le-ltb (suc (suc m)) 2 (omega arith),
          ne_eqb (suc (suc m)) 1 (λ e. omega (arith, e)),
          ne_eqb (suc (suc m)) 0 (λ e. omega (arith, e)),
        )

both_known : (rs : List Row) → rows_known rs ≡ returns_known (marks_of rs) (arrivals_of rs)
both_known [] = refl
both_known (r ∷ rs) = λ i. known_is r.mark r.arrival_timestamp_ns i && both_known rs i

-- the used rows do not fit
pub overfull : (o : Observer) → capacity o < o.counts.used → well_formed o ≡ false
unfolding well_formed
overfull o h = rw (lt-leb o.counts.used (capacity o) h)

-- they do: what is left to judge stands in three columns
pub on_columns : (o : Observer) → o.counts.used ≤ capacity o
    → well_formed o
    ≡ rising (take o.counts.used o.columns.sequences)
    && returns_known (take o.counts.used o.columns.marks) (take o.counts.used o.columns.arrival_timestamps)
unfolding well_formed
on_columns o fits =
    let r = rows_are o fits in
    rw (le-leb o.counts.used (capacity o) fits, both_known (rows o), r.sequences, r.marks, r.arrival_timestamps)

-- and the marks and times only where the sequences rise
pub rising_first : (o : Observer) → o.counts.used ≤ capacity o → (rise : Bool) → rising (take o.counts.used o.columns.sequences) ≡ rise
    → rise && returns_known (take o.counts.used o.columns.marks) (take o.counts.used o.columns.arrival_timestamps) ≡ well_formed o
rising_first o fits rise e =
    ap (λ (b : Bool). b && returns_known (take o.counts.used o.columns.marks) (take o.counts.used o.columns.arrival_timestamps)) (sym e)
    ∙ sym (on_columns o fits)

-- what an observer has that 21 does not refuse
pub record Well (o : Observer) : Type 0 where
  pub accepted : well_formed o ≡ true
  pub fits : o.counts.used ≤ capacity o
  pub rises : rising (take o.counts.used o.columns.sequences) ≡ true
  pub fronts : Fronts o.counts.used (rows o) o.columns
  pub room : Within o.counts.used o.columns

pub well : (o : Observer) → well_formed o ≡ true → Well o
unfolding well_formed
well o e =
    let used = o.counts.used in
    let f : used ≤ capacity o = leb-true used (capacity o) (both_left _ _ e) in
    record {
      accepted = e;
      fits = f;
      rises = both_left _ _ (sym (on_columns o f) ∙ e);
      fronts = rows_are o f;
      room = room_for used o f;
    }

-- the search for a sequence, which the code does in the column
module _ {o : Observer} (w : Well o) (q k : ℕ) (at : k ≡ place q (take o.counts.used o.columns.sequences)) where
  pub place_is : place_of q (rows o) ≡ k
  place_is = ap (place q) w.fronts.sequences ∙ sym at

  pub held_is : was_sent q (rows o) ≡ holds q k (take o.counts.used o.columns.sequences)
  held_is = ap (λ (i : ℕ). holds q i (map (λ r. r.sequence) (rows o))) place_is ∙ ap (holds q k) w.fronts.sequences

  pub place_used : k ≤ o.counts.used
  place_used =
      omega (arith, place_within q (take o.counts.used o.columns.sequences), length-take-le o.counts.used o.columns.sequences w.room.sequences)
