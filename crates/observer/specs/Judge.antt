-- Cause 21, which every call judges first, and the step that a call makes.
use Rattle.std.specs.Prelude.{ℕ, List, [], ◌∷◌, Bool, true, not, ◌&&◌, ◌||◌, leb, ltb, eqb}
use Rattle.error.specs.Number.{malformed_observer}
use Rattle.error.specs.Outcome.{Outcome, refused, gives, ◌⇒◌, first_cause}
use Rattle.columns.specs.Columns.{rising}
use Rattle.observer.specs.Observer.{Row, Observer, capacity, rows, sequences_of}

-- The mark is 0 or 1, and without a mark the arrival time is 0. (The latency of a row without a mark may be anything,
-- and so may the arrival time of a row with one.)
abbrev pub row_known : Row → Bool
row_known r = ltb r.mark 2 && (eqb r.mark 1 || eqb r.arrival_timestamp_ns 0)

abbrev pub rows_known : List Row → Bool
rows_known [] = true
rows_known (r ∷ rs) = row_known r && rows_known rs

-- Not cause 21: "used count above capacity, used rows not rising, a used row's mark not 0 or 1" (document 01), "a
-- nonzero return time on an unmarked used row" (document 02, job 8).
unfoldable pub well_formed : Observer → Bool
well_formed o = leb o.counts.used (capacity o) && (rising (sequences_of (rows o)) && rows_known (rows o))

-- "Every call, the report too, judges 21 first".
unfoldable pub judged : {A : Type 0} → Observer → Outcome A → Outcome A
judged o onward = first_cause ((not (well_formed o) ⇒ malformed_observer) ∷ []) onward

-- The step of a call that may change the observer: its outcome, and the observer as it leaves it.
pub record Step : Type 0 where
  pub outcome : Outcome (Unit {0})
  pub observer : Observer

-- What is given is the next observer. "A refusal returns its number and nothing else", and leaves all as it was.
abbrev pub step : Observer → Outcome Observer → Step
step o (refused n) = record { outcome = refused n; observer = o }
step o (gives next) = record { outcome = gives tt; observer = next }

-- a refusal by this number, after 21
abbrev pub refusing : Observer → ℕ → Step
refusing o n = step o (judged o (refused n))

-- A call that first reads its input; reading changes nothing. "A return is judged 21, 1 to 14, 23, 24": 21 comes before
-- the reader's refusal, whichever it is, and the call judges the rest.
abbrev pub after_reading : {A : Type 0} → Observer → Outcome A → (A → Step) → Step
after_reading o (refused n) call = refusing o n
after_reading o (gives x) call = call x
