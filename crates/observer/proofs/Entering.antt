-- `rows::enter` on an observer that was judged is `record_sent`: what it stores in the columns is, way by way, what the laws of
-- proofs/Calls.antt say of the rows.
use Prim.Native.Nat.{ℕ, suc, ◌+◌, ◌≤◌, ◌<◌}
use mathlib.Core.Path.{◌≡◌, refl, sym, ap, ◌∙◌}
use mathlib.Core.Bool.{Bool, true, false}
use native.Mathlib.Numerals.{add-one}
use native.Mathlib.Omega.{arith}
use lib.Dec.{eqb}
use lib.ListN.{take, set, length-set}
use borrow.Author.Tests.{eqb-true, eqb-false}
use Rattle.error.specs.Outcome.{Outcome, gives}
use Rattle.columns.specs.Place.{place, holds, found}
use Rattle.columns.proofs.Search.{found_place}
use Rattle.rows.specs.Columns.{Columns, column_lengths, capacity_of, Left}
use Rattle.rows.specs.Entering.{sent_again, sent_new, entering}
use Rattle.rows.proofs.Within.{Within, held_used, row_of}
use Rattle.rows.proofs.Ways.{enters_again, enters_full, enters_new}
use Rattle.observer.specs.Counts.{with_used}
use Rattle.observer.specs.Observer.{Row, Observer, capacity, rows, row_at, sent_row, with_rows}
use Rattle.observer.specs.Judge.{well_formed, Step, step}
use Rattle.observer.specs.Sending.{resent, record_sent}
use Rattle.observer.specs.Answer.{observer_of, taken, after_entry, recorded}
use Rattle.observer.specs.declared.ObserverCounts.{ObserverCounts}
use Rattle.observer.proofs.Rows.{room_for, put_in, length_put, column_set, column_same, column_put}
use Rattle.observer.proofs.Judging.{Well, well, place_is, held_is, place_used}
use Rattle.observer.proofs.Calls.{sent_again_lem, sent_full, sent_new_lem}

module _ {o : Observer} (w : Well o) (k : ℕ) where
  -- row k is sent again: its send time is stored
  resent_columns : (t : ℕ) → k < o.counts.used
      → with_rows (set (rows o) k (resent t (row_at k (rows o)))) o
      ≡ observer_of (sent_again k t o.columns) o.counts
  unfolding with_rows
  resent_columns t h =
      let r : Row = resent t (row_at k (rows o)) in
      let f = w.fronts in
      λ i.
      observer_of (record {
        sequences = column_same (λ r. r.sequence) (rows o) o.columns.sequences f.count f.sequences k r refl i;
        send_timestamps = column_set (λ r. r.send_timestamp_ns) (rows o) o.columns.send_timestamps f.count f.send_timestamps k r h i;
        latencies = column_same (λ r. r.latency) (rows o) o.columns.latencies f.count f.latencies k r refl i;
        marks = column_same (λ r. r.mark) (rows o) o.columns.marks f.count f.marks k r refl i;
        arrival_timestamps = column_same (λ r. r.arrival_timestamp_ns) (rows o) o.columns.arrival_timestamps f.count f.arrival_timestamps k r refl i;
      }) (with_used ((length-set (rows o) k r ∙ f.count) i) o.counts)

  -- a new row at k: an entry is put in, in each column
  sent_columns : (q t : ℕ) → k ≤ o.counts.used → Within (o.counts.used + 1) o.columns
      → with_rows (put_in k (sent_row q t) (rows o)) o
      ≡ observer_of (sent_new o.counts.used k q t o.columns) (with_used (o.counts.used + 1) o.counts)
  unfolding with_rows
  sent_columns q t h free =
      let r : Row = sent_row q t in
      let f = w.fronts in
      λ i.
      observer_of (record {
        sequences = column_put (λ r. r.sequence) (rows o) o.columns.sequences f.count f.sequences k r h (omega (arith, free.sequences)) i;
        send_timestamps = column_put (λ r. r.send_timestamp_ns) (rows o) o.columns.send_timestamps f.count f.send_timestamps k r h (omega (arith, free.send_timestamps)) i;
        latencies = column_put (λ r. r.latency) (rows o) o.columns.latencies f.count f.latencies k r h (omega (arith, free.latencies)) i;
        marks = column_put (λ r. r.mark) (rows o) o.columns.marks f.count f.marks k r h (omega (arith, free.marks)) i;
        arrival_timestamps = column_put (λ r. r.arrival_timestamp_ns) (rows o) o.columns.arrival_timestamps f.count f.arrival_timestamps k r h (omega (arith, free.arrival_timestamps)) i;
      }) (with_used ((length_put k r (rows o) ∙ ap suc f.count ∙ sym (add-one o.counts.used)) i) o.counts)

-- what an entry is answered by, and the columns as it leaves them
abbrev pub entry_step : ObserverCounts → Left (Outcome ℕ) → Step
entry_step c e = recorded (taken e.answer) (after_entry c e.answer) e.columns

module _ {o : Observer} (w : Well o) (q t : ℕ) where
  abbrev n : ℕ
  n = o.counts.used

  -- where the search ends
  abbrev k : ℕ
  k = found q (take n o.columns.sequences)

  at : k ≡ place q (take n o.columns.sequences)
  at = found_place q (take n o.columns.sequences) w.rises

  fits : n ≤ capacity_of (column_lengths o.columns)
  unfolding capacity
  fits = w.fits

  room : capacity o ≡ capacity_of (column_lengths o.columns)
  unfolding capacity
  room = refl

  again : holds q k (take n o.columns.sequences) ≡ true → entry_step o.counts (entering n q t o.columns) ≡ record_sent o q t
  again e =
      ap (entry_step o.counts) (sym (enters_again n q t refl fits k (row_of q k n o.columns fits refl e)))
      ∙ ap (λ (x : Observer). step o (gives x))
      (sym (resent_columns w k t (held_used q k n o.columns.sequences e))
      ∙ ap (λ (i : ℕ). with_rows (set (rows o) i (resent t (row_at i (rows o)))) o) (sym (place_is w q k at)))
      ∙ sent_again_lem o w.accepted q t (held_is w q k at ∙ e)

  full : holds q k (take n o.columns.sequences) ≡ false → n ≡ capacity o → entry_step o.counts (entering n q t o.columns) ≡ record_sent o q t
  full e f =
      ap (entry_step o.counts) (sym (enters_full n q t refl fits k (record { at = refl; not_held = e }) (f ∙ room)))
      ∙ sent_full o w.accepted q t (held_is w q k at ∙ e) f

  new : holds q k (take n o.columns.sequences) ≡ false → (n ≡ capacity o → ⊥) → entry_step o.counts (entering n q t o.columns) ≡ record_sent o q t
  new e f =
      ap (entry_step o.counts) (sym (enters_new n q t refl fits k (record { at = refl; not_held = e }) (λ x. f (x ∙ sym room))))
      ∙ ap (λ (x : Observer). step o (gives x))
      (sym (sent_columns w k q t (place_used w q k at) (room_for (n + 1) o (omega (arith, f, w.fits))))
      ∙ ap (λ (i : ℕ). with_rows (put_in i (sent_row q t) (rows o)) o) (sym (place_is w q k at)))
      ∙ sent_new_lem o w.accepted q t (held_is w q k at ∙ e) f

  pub entry_is_sent : entry_step o.counts (entering n q t o.columns) ≡ record_sent o q t
  entry_is_sent = go (holds q k (take n o.columns.sequences)) (eqb n (capacity o)) refl refl
    where
      go : (has none : Bool) → holds q k (take n o.columns.sequences) ≡ has → eqb n (capacity o) ≡ none
          → entry_step o.counts (entering n q t o.columns) ≡ record_sent o q t
      go true none e f = again e
      go false true e f = full e (eqb-true n (capacity o) f)
      go false false e f = new e (eqb-false n (capacity o) f)

-- the code's call: what it was answered, and the columns as it left them
pub entered_is : (o : Observer) (q t : ℕ) (e : Outcome ℕ) (c : Columns) → well_formed o ≡ true
    → record { answer = e; columns = c } ≡ entering o.counts.used q t o.columns → recorded (taken e) (after_entry o.counts e) c ≡ record_sent o q t
entered_is o q t e c w x = ap (entry_step o.counts) x ∙ entry_is_sent (well o w) q t
