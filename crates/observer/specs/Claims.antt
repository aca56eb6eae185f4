-- What is claimed of the observer and its calls. proofs/Claims.antt proves each claim.
use Rattle.std.specs.Prelude.{ℕ, suc, ◌≤◌, ◌<◌, ◌≡◌, List, ◌∷◌, ◌++◌, true, false, ltb, length, set, take, drop}
use Rattle.error.specs.Number.{observer_full}
use Rattle.error.specs.Outcome.{refused, gives}
use Rattle.rows.specs.Columns.{Columns, column_lengths, EachHas}
use Rattle.observer.specs.Counts.{fresh}
use Rattle.observer.specs.Observer.{Row, Observer, capacity, rows, row_at, sent_row, with_rows}
use Rattle.observer.specs.Judge.{well_formed, Step}
use Rattle.observer.specs.Place.{place_of, was_sent, row_of, highest_marked, marked_above}
use Rattle.observer.specs.Sending.{resent, record_sent}
use Rattle.observer.specs.Returning.{record_return, record_error_indication}
use Rattle.observer.specs.InTurn.{in_turn}

-- The rows that are put back are the used rows, whatever the columns held and however long they are.
abbrev pub PutBack : Type 0
PutBack = (rs : List Row) (o : Observer) → rows (with_rows rs o) ≡ rs

-- "used count above capacity, used rows not rising, a used row's mark not 0 or 1" (document 01), "a nonzero return time
-- on an unmarked used row" (document 02, job 8): each of these alone makes a sheet malformed, and nothing else does. A
-- marked row may have any arrival time, 0 too, and every row any latency. Said by the numbers of the rows, and not by
-- the tests of specs/Judge.antt.
pub record Causes21 (o : Observer) : Type 0 where
  pub above_capacity : capacity o < o.counts.used → well_formed o ≡ false
  pub not_rising : (k : ℕ) → suc k < length (rows o)
      → (row_at (suc k) (rows o)).sequence ≤ (row_at k (rows o)).sequence → well_formed o ≡ false
  pub unknown_mark : (k : ℕ) → k < length (rows o) → 1 < (row_at k (rows o)).mark → well_formed o ≡ false
  pub unmarked_arrival : (k : ℕ) → k < length (rows o) → (row_at k (rows o)).mark ≡ 0
      → 0 < (row_at k (rows o)).arrival_timestamp_ns → well_formed o ≡ false
  pub otherwise : o.counts.used ≤ capacity o
      → ((k : ℕ) → suc k < length (rows o) → (row_at k (rows o)).sequence < (row_at (suc k) (rows o)).sequence)
      → ((k : ℕ) → k < length (rows o) → (row_at k (rows o)).mark ≤ 1)
      → ((k : ℕ) → k < length (rows o) → (row_at k (rows o)).mark ≡ 0 → (row_at k (rows o)).arrival_timestamp_ns ≡ 0)
      → well_formed o ≡ true

abbrev pub MalformedIs : Type 0
MalformedIs = (o : Observer) → Causes21 o

-- A fresh observer is well formed, with columns of any contents and any lengths.
abbrev pub FreshIsWell : Type 0
FreshIsWell = (o : Observer) → o.counts ≡ fresh → well_formed o ≡ true

-- A call, with what it is handed.
pub data Call : Type 0 where
  sending : ℕ → ℕ → Call
  returning : ℕ → ℕ → Call
  indicating : Call

abbrev pub record_call : Observer → Call → Step
record_call o (sending q t) = record_sent o q t
record_call o (returning t q) = record_return o t q
record_call o indicating = record_error_indication o

-- The observer after calls, one after the other, each on what the last one left, refused or not.
abbrev pub after_calls : Observer → List Call → Observer
after_calls o calls = (in_turn record_call o calls).observer

-- Every call, accepted or refused, leaves a well-formed observer well formed. So 21 is never due on one that is fresh
-- and that only these calls have written since.
abbrev pub CallsKeepWell : Type 0
CallsKeepWell = (o : Observer) (calls : List Call) → well_formed o ≡ true → well_formed (after_calls o calls) ≡ true

-- From row n on, the columns hold what they held.
pub record SameFrom (n : ℕ) (before after : Columns) : Type 0 where
  pub sequences : drop n after.sequences ≡ drop n before.sequences
  pub send_timestamps : drop n after.send_timestamps ≡ drop n before.send_timestamps
  pub latencies : drop n after.latencies ≡ drop n before.latencies
  pub marks : drop n after.marks ≡ drop n before.marks
  pub arrival_timestamps : drop n after.arrival_timestamps ≡ drop n before.arrival_timestamps

-- "rows past the new count keep their contents": after every call, accepted or refused.
abbrev pub RestKept : Type 0
RestKept = (o : Observer) (call : Call)
    → let next : Observer = (record_call o call).observer in
    SameFrom next.counts.used o.columns next.columns

-- The search finds a sequence exactly where a used row has it.
pub record Finds (o : Observer) : Type 0 where
  pub every_row : (k : ℕ) → k < length (rows o)
      → (was_sent (row_at k (rows o)).sequence (rows o) ≡ true) × (place_of (row_at k (rows o)).sequence (rows o) ≡ k)
  pub no_other : (q : ℕ) → was_sent q (rows o) ≡ true
      → (place_of q (rows o) < length (rows o)) × ((row_of q (rows o)).sequence ≡ q)

abbrev pub SearchFinds : Type 0
SearchFinds = (o : Observer) → well_formed o ≡ true → Finds o

-- A new sequence is refused by 22 if the used count equals the capacity, and entered if it does not.
pub record NewSequence (o : Observer) (q t : ℕ) : Type 0 where
  pub full : o.counts.used ≡ capacity o → (record_sent o q t).outcome ≡ refused observer_full
  pub room : (o.counts.used ≡ capacity o → ⊥) → (record_sent o q t).outcome ≡ gives tt
  pub enters : (o.counts.used ≡ capacity o → ⊥)
      → rows (record_sent o q t).observer
      ≡ take (place_of q (rows o)) (rows o) ++ sent_row q t ∷ drop (place_of q (rows o)) (rows o)

abbrev pub FullOnlyWhenFull : Type 0
FullOnlyWhenFull = (o : Observer) (q t : ℕ) → well_formed o ≡ true → was_sent q (rows o) ≡ false → NewSequence o q t

-- With columns of 2,048 entries or more, a sheet has 2,048 rows, and says full at row 2,049, no sooner.
pub record Holds2048 (o : Observer) (q t : ℕ) : Type 0 where
  pub up_to_2048 : o.counts.used < 2048 → (record_sent o q t).outcome ≡ gives tt
  pub not_2049 : o.counts.used ≡ 2048 → (record_sent o q t).outcome ≡ refused observer_full

abbrev pub FullAtRow2049 : Type 0
FullAtRow2049 = (o : Observer) (q t : ℕ) → well_formed o ≡ true → was_sent q (rows o) ≡ false
    → EachHas 2048 (column_lengths o.columns) → Holds2048 o q t

-- A sequence that was sent before is never refused by 22: it "only replaces its send time", also where no row is free.
pub record OnlyTime (o : Observer) (q t : ℕ) : Type 0 where
  pub accepted : (record_sent o q t).outcome ≡ gives tt
  pub row : rows (record_sent o q t).observer ≡ set (rows o) (place_of q (rows o)) (resent t (row_of q (rows o)))
  pub counts : (record_sent o q t).observer.counts ≡ o.counts

abbrev pub SentAgain : Type 0
SentAgain = (o : Observer) (q t : ℕ) → well_formed o ≡ true → was_sent q (rows o) ≡ true → OnlyTime o q t

-- "below the highest marked sequence" (leaf 6) is "a row of higher sequence is marked" (the tally), on every list of
-- rows.
abbrev pub BelowHighestMarked : Type 0
BelowHighestMarked = (q : ℕ) (rs : List Row) → ltb q (highest_marked rs) ≡ marked_above q rs
