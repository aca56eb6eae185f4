-- Sending (the Rust's `record_sent`): document 01, leaf 6.
use Rattle.std.specs.Prelude.{ℕ, List, [], ◌∷◌, ◌++◌, true, false, not, ◌&&◌, eqb, set, take, drop}
use Rattle.error.specs.Number.{observer_full}
use Rattle.error.specs.Outcome.{gives, Cause, ◌⇒◌, first_cause}
use Rattle.observer.specs.Observer.{Row, Observer, capacity, rows, with_rows, sent_row}
use Rattle.observer.specs.Judge.{judged, Step, step}
use Rattle.observer.specs.Place.{place_of, was_sent, row_of}

-- "A sequence sent again only replaces its send time." "For a marked row .., latency and return time keep their values"
-- (document 02, job 8).
abbrev pub resent : ℕ → Row → Row
resent t r = record {
  sequence = r.sequence;
  send_timestamp_ns = t;
  latency = r.latency;
  mark = r.mark;
  arrival_timestamp_ns = r.arrival_timestamp_ns;
}

-- The rows with a packet entered. "A new sent row .. shifts later used rows by one".
unfoldable pub entered : ℕ → ℕ → List Row → List Row
entered q t rs =
    elim (was_sent q rs) [
      | true ↦ set rs (place_of q rs) (resent t (row_of q rs))
      | false ↦ take (place_of q rs) rs ++ sent_row q t ∷ drop (place_of q rs) rs
    ]

-- "new sequence, used count equals capacity"
unfoldable pub sending_causes : Observer → ℕ → List Cause
sending_causes o q = (not (was_sent q (rows o)) && eqb o.counts.used (capacity o) ⇒ observer_full) ∷ []

-- A packet of this sequence is sent at this time. "Every call .. judges 21 first; sending then 22."
unfoldable pub record_sent : Observer → ℕ → ℕ → Step
record_sent o q t = step o (judged o (first_cause (sending_causes o q) (gives (with_rows (entered q t (rows o)) o))))
