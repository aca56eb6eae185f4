-- `rows::arrive` on an observer that was judged is `record_return`: what it stores in the columns is, way by way, what the laws of
-- proofs/Calls.antt say of the rows.
use Prim.Native.Nat.{ℕ, suc, ◌+◌, ◌-◌, ◌≤◌, ◌<◌}
use mathlib.Core.Path.{◌≡◌, refl, sym, ap, ◌∙◌}
use mathlib.Core.List.{List}
use mathlib.Core.Bool.{Bool, true, false}
use native.Mathlib.Numerals.{add-one}
use native.Mathlib.Omega.{arith}
use lib.Dec.{eqb, ltb}
use lib.ListN.{length, get_or, take, drop, set, length-set}
use borrow.Author.Tests.{eqb-true, eqb-false, ltb-true, ltb-false}
use Rattle.error.specs.Outcome.{Outcome, gives}
use Rattle.columns.specs.Columns.{any_marked}
use Rattle.columns.specs.Place.{place, holds, found}
use Rattle.columns.proofs.Search.{both_right, found_place}
use Rattle.rows.specs.Columns.{Columns, column_lengths, capacity_of, Left}
use Rattle.rows.specs.Arriving.{returned_at, arriving}
use Rattle.rows.specs.declared.Arrival.{Arrival}
use Rattle.rows.specs.Search.{RowOf}
use Rattle.rows.proofs.Within.{held_used, row_of as row_at_place}
use Rattle.rows.proofs.Ways.{arrives_unknown, arrives_early, arrives_again, arrives_late, arrives_in_order}
use Rattle.observer.specs.Counts.{with_used, out_of_order_if}
use Rattle.observer.specs.Observer.{Row, Observer, capacity, rows, row_at, with_rows, with_counts, sequences_of}
use Rattle.observer.specs.Judge.{well_formed, Step, step}
use Rattle.observer.specs.Place.{was_sent, row_of, highest_marked, marked_above}
use Rattle.observer.specs.Returning.{returned, record_return}
use Rattle.observer.specs.Answer.{observer_of, taken, after_arrival, recorded}
use Rattle.observer.specs.declared.ObserverCounts.{ObserverCounts}
use Rattle.observer.proofs.Rows.{entry_is, column_set, column_same}
use Rattle.observer.proofs.Judging.{Well, well, place_is, held_is}
use Rattle.observer.proofs.OutOfOrder.{below_highest, above_behind}
use Rattle.observer.proofs.Calls.{return_unknown, return_early, return_duplicate, return_first}

-- row k returns: its latency, its mark and its arrival time are stored
returned_columns : {o : Observer} (w : Well o) (k t : ℕ) (c : ObserverCounts) → c.used ≡ o.counts.used → k < o.counts.used
    → with_rows (set (rows o) k (returned t (row_at k (rows o)))) (with_counts c o)
    ≡ observer_of (returned_at k t o.columns) c
unfolding with_rows
returned_columns {o} w k t c e h =
    let r : Row = returned t (row_at k (rows o)) in
    let f = w.fronts in
    let sent : (row_at k (rows o)).send_timestamp_ns ≡ get_or o.columns.send_timestamps k 0 = entry_is (λ r. r.send_timestamp_ns) (rows o) o.counts.used o.columns.send_timestamps f.send_timestamps f.count k h in
    λ i.
    observer_of (record {
      sequences = column_same (λ r. r.sequence) (rows o) o.columns.sequences f.count f.sequences k r refl i;
      send_timestamps = column_same (λ r. r.send_timestamp_ns) (rows o) o.columns.send_timestamps f.count f.send_timestamps k r refl i;
      latencies =
          (column_set (λ r. r.latency) (rows o) o.columns.latencies f.count f.latencies k r h
          ∙ ap (λ (s : ℕ). set o.columns.latencies k (t - s)) sent) i;
      marks = column_set (λ r. r.mark) (rows o) o.columns.marks f.count f.marks k r h i;
      arrival_timestamps = column_set (λ r. r.arrival_timestamp_ns) (rows o) o.columns.arrival_timestamps f.count f.arrival_timestamps k r h i;
    }) (with_used ((length-set (rows o) k r ∙ f.count ∙ sym e) i) c)

used_kept : (late : Bool) (c : ObserverCounts) → (out_of_order_if late c).used ≡ c.used
used_kept true c = refl
used_kept false c = refl

-- what an arrival is answered by, and the columns as it leaves them
abbrev pub arrival_step : ObserverCounts → Left (Outcome Arrival) → Step
arrival_step c a = recorded (taken a.answer) (after_arrival c a.answer) a.columns

module _ {o : Observer} (w : Well o) (q t : ℕ) where
  abbrev n : ℕ
  n = o.counts.used

  -- where the search ends
  abbrev k : ℕ
  k = found q (take n o.columns.sequences)

  at : k ≡ place q (take n o.columns.sequences)
  at = found_place q (take n o.columns.sequences) w.rises

  fits : n ≤ capacity_of (column_lengths o.columns)
  unfolding capacity
  fits = w.fits

  unknown : holds q k (take n o.columns.sequences) ≡ false → arrival_step o.counts (arriving n t q o.columns) ≡ record_return o t q
  unknown e =
      ap (arrival_step o.counts) (sym (arrives_unknown n t q refl fits k (record { at = refl; not_held = e })))
      ∙ return_unknown o w.accepted q t (held_is w q k at ∙ e)

  module _ (h : holds q k (take n o.columns.sequences) ≡ true) where
    held : RowOf q n o.columns k
    held = row_at_place q k n o.columns fits refl h

    below : k < n
    below = held_used q k n o.columns.sequences h

    known : was_sent q (rows o) ≡ true
    known = held_is w q k at ∙ h

    row_is : row_of q (rows o) ≡ row_at k (rows o)
    row_is = ap (λ (i : ℕ). row_at i (rows o)) (place_is w q k at)

    sent_is : (row_of q (rows o)).send_timestamp_ns ≡ get_or o.columns.send_timestamps k 0
    sent_is =
        ap (λ (r : Row). r.send_timestamp_ns) row_is
        ∙ entry_is (λ r. r.send_timestamp_ns) (rows o) o.counts.used o.columns.send_timestamps w.fronts.send_timestamps w.fronts.count k below

    mark_is : (row_of q (rows o)).mark ≡ get_or o.columns.marks k 0
    mark_is =
        ap (λ (r : Row). r.mark) row_is
        ∙ entry_is (λ r. r.mark) (rows o) o.counts.used o.columns.marks w.fronts.marks w.fronts.count k below

    sequence_is : q ≡ get_or (sequences_of (rows o)) k 0
    unfolding holds
    sequence_is =
        sym (eqb-true (get_or (take o.counts.used o.columns.sequences) k 0) q (both_right (ltb k (length (take o.counts.used o.columns.sequences))) _ h))
        ∙ ap (λ (l : List ℕ). get_or l k 0) (sym w.fronts.sequences)

    late_is : ltb q (highest_marked (rows o)) ≡ any_marked (drop (k + 1) (take o.counts.used o.columns.marks))
    late_is =
        below_highest q (rows o)
        ∙ ap (λ (x : ℕ). marked_above x (rows o)) sequence_is
        ∙ above_behind (rows o) k (rw w.fronts.sequences w.rises) (omega (arith, w.fronts.count, below))
        ∙ ap (λ (l : List ℕ). any_marked (drop (suc k) l)) w.fronts.marks
        ∙ ap (λ (i : ℕ). any_marked (drop i (take o.counts.used o.columns.marks))) (sym (add-one k))

    early : t < get_or o.columns.send_timestamps k 0 → arrival_step o.counts (arriving n t q o.columns) ≡ record_return o t q
    early g =
        ap (arrival_step o.counts) (sym (arrives_early n t q refl fits k held g))
        ∙ return_early o w.accepted q t known (omega (arith, sent_is))

    module _ (g : get_or o.columns.send_timestamps k 0 ≤ t) where
      duplicate : eqb (get_or o.columns.marks k 0) 1 ≡ true → arrival_step o.counts (arriving n t q o.columns) ≡ record_return o t q
      duplicate m =
          ap (arrival_step o.counts) (sym (arrives_again n t q refl fits k held g (eqb-true _ 1 m)))
          ∙ return_duplicate o w.accepted q t known (omega (arith, sent_is)) (mark_is ∙ eqb-true _ 1 m)

      -- the row as it then is, and the counts by whether some row behind it is marked
      first : eqb (get_or o.columns.marks k 0) 1 ≡ false → (late : Bool) → any_marked (drop (k + 1) (take n o.columns.marks)) ≡ late
          → step o (gives (observer_of (returned_at k t o.columns) (out_of_order_if late o.counts))) ≡ record_return o t q
      first m late l =
          let row : ℕ → ObserverCounts → Observer = λ i x. with_rows (set (rows o) i (returned t (row_at i (rows o)))) (with_counts x o) in
          ap (λ (x : Observer). step o (gives x))
          (sym (returned_columns w k t (out_of_order_if late o.counts) (used_kept late o.counts) below)
          ∙ ap (λ (b : Bool). row k (out_of_order_if b o.counts)) (sym (late_is ∙ l))
          ∙ ap (λ (i : ℕ). row i (out_of_order_if (ltb q (highest_marked (rows o))) o.counts)) (sym (place_is w q k at)))
          ∙ return_first o w.accepted q t known (omega (arith, sent_is)) (λ x. eqb-false _ 1 m (sym mark_is ∙ x))

      first_is : eqb (get_or o.columns.marks k 0) 1 ≡ false → (late : Bool) → any_marked (drop (k + 1) (take n o.columns.marks)) ≡ late
          → arrival_step o.counts (arriving n t q o.columns) ≡ record_return o t q
      first_is m true l = ap (arrival_step o.counts) (sym (arrives_late n t q refl fits k held g (eqb-false _ 1 m) l)) ∙ first m true l
      first_is m false l = ap (arrival_step o.counts) (sym (arrives_in_order n t q refl fits k held g (eqb-false _ 1 m) l)) ∙ first m false l

  pub arrival_is_return : arrival_step o.counts (arriving n t q o.columns) ≡ record_return o t q
  arrival_is_return = go (holds q k (take n o.columns.sequences)) (ltb t (get_or o.columns.send_timestamps k 0)) (eqb (get_or o.columns.marks k 0) 1) refl refl refl
    where
      go : (has reversed marked : Bool) → holds q k (take n o.columns.sequences) ≡ has → ltb t (get_or o.columns.send_timestamps k 0) ≡ reversed
          → eqb (get_or o.columns.marks k 0) 1 ≡ marked → arrival_step o.counts (arriving n t q o.columns) ≡ record_return o t q
      go false reversed marked e f m = unknown e
      go true true marked e f m = early e (ltb-true _ _ f)
      go true false true e f m = duplicate e (ltb-false _ _ f) m
      go true false false e f m = first_is e (ltb-false _ _ f) m _ refl

-- the code's call: what it was answered, and the columns as it left them
pub return_is : (o : Observer) (t q : ℕ) (a : Outcome Arrival) (c : Columns) → well_formed o ≡ true
    → record { answer = a; columns = c } ≡ arriving o.counts.used t q o.columns → recorded (taken a) (after_arrival o.counts a) c ≡ record_return o t q
return_is o t q a c w x = ap (arrival_step o.counts) x ∙ arrival_is_return (well o w) q t
