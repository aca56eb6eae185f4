-- Returns and error indications: document 01, leaf 6. Here a return is a sequence and a time. The calls first read the
-- T-PDU, or walk the elements of the message, and record nothing if that refuses (`after_reading`).
use Rattle.std.specs.Prelude.{ℕ, ◌-◌, List, [], ◌∷◌, true, false, not, eqb, ltb, set}
use Rattle.error.specs.Number.{sequence_was_not_sent, timestamp_reversed}
use Rattle.error.specs.Outcome.{gives, Cause, ◌⇒◌, first_cause}
use Rattle.observer.specs.Counts.{one_duplicate, out_of_order_if, one_error_indication}
use Rattle.observer.specs.Observer.{Row, Observer, rows, with_rows, with_counts}
use Rattle.observer.specs.Judge.{judged, Step, step}
use Rattle.observer.specs.Place.{place_of, was_sent, row_of, highest_marked}

-- A row at its first return: "mark 1 and as latency its time less the send time" (document 01, "The tally"), and that
-- time as arrival time (document 02, job 8).
abbrev pub returned : ℕ → Row → Row
returned t r = record {
  sequence = r.sequence;
  send_timestamp_ns = r.send_timestamp_ns;
  latency = t - r.send_timestamp_ns;
  mark = 1;
  arrival_timestamp_ns = t;
}

-- "returned sequence not on the sheet; returned before sent"
unfoldable pub return_causes : Observer → ℕ → ℕ → List Cause
return_causes o q t =
    (not (was_sent q (rows o)) ⇒ sequence_was_not_sent)
    ∷ (ltb t (row_of q (rows o)).send_timestamp_ns ⇒ timestamp_reversed)
    ∷ []

-- "then duplicate, then out of order (below the highest marked sequence). A duplicate changes its counter only."
unfoldable pub after_return : Observer → ℕ → ℕ → Observer
after_return o q t =
    elim (eqb (row_of q (rows o)).mark 1) [
      | true ↦ with_counts (one_duplicate o.counts) o
      | false ↦
          with_rows (set (rows o) (place_of q (rows o)) (returned t (row_of q (rows o))))
          (with_counts (out_of_order_if (ltb q (highest_marked (rows o))) o.counts) o)
    ]

-- This sequence returns at this time. "A return is judged 21, .. 23, 24, then duplicate, then out of order".
unfoldable pub record_return : Observer → ℕ → ℕ → Step
record_return o t q = step o (judged o (first_cause (return_causes o q t) (gives (after_return o q t))))

-- An Error Indication comes, whose elements leaf 8's walk accepts: 21, "and then the counter".
unfoldable pub record_error_indication : Observer → Step
record_error_indication o = step o (judged o (gives (with_counts (one_error_indication o.counts) o)))
