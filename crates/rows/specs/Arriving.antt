-- A sequence returns; n rows of the columns are in use. Where 21 does not refuse, this is document 01's return, as
-- observer proves (specs/Returning.antt).
use Rattle.std.specs.Prelude.{ℕ, ◌+◌, ◌-◌, true, false, leb, ltb, eqb, get_or, take, drop, set}
use Rattle.error.specs.Number.{malformed_observer, sequence_was_not_sent, timestamp_reversed}
use Rattle.error.specs.Outcome.{Outcome, refused, gives}
use Rattle.columns.specs.Columns.{any_marked}
use Rattle.columns.specs.Place.{holds, found}
use Rattle.rows.specs.Columns.{Columns, column_lengths, capacity_of, Left}
use Rattle.rows.specs.declared.Arrival.{Arrival}
use Rattle.rows.specs.declared.Arrival.TheVariants.{InOrder, OutOfOrder, Duplicate}

-- Row k returns at this time: "mark 1 and as latency its time less the send time" (document 01, "The tally"), and "the
-- return time of the first accepted return" (document 02, job 8).
abbrev pub returned_at : ℕ → ℕ → Columns → Columns
returned_at k t c = record {
  sequences = c.sequences;
  send_timestamps = c.send_timestamps;
  latencies = set c.latencies k (t - get_or c.send_timestamps k 0);
  marks = set c.marks k 1;
  arrival_timestamps = set c.arrival_timestamps k t;
}

-- The sequence is that of row k.
unfoldable pub arriving_at : ℕ → ℕ → ℕ → Columns → Left (Outcome Arrival)
arriving_at n k t c =
    elim (ltb t (get_or c.send_timestamps k 0)) [
      | true ↦ record { answer = refused timestamp_reversed; columns = c }
      | false ↦
          elim (eqb (get_or c.marks k 0) 1) [
            | true ↦ record { answer = gives Duplicate; columns = c }
            | false ↦ record {
              answer =
                  elim (any_marked (drop (k + 1) (take n c.marks))) [ true ↦ gives OutOfOrder | false ↦ gives InOrder ];
              columns = returned_at k t c;
            }
          ]
    ]

-- The search for the sequence ended at row k.
unfoldable pub arriving_from : ℕ → ℕ → ℕ → ℕ → Columns → Left (Outcome Arrival)
arriving_from n k t q c =
    elim (holds q k (take n c.sequences)) [
      | true ↦ arriving_at n k t c
      | false ↦ record { answer = refused sequence_was_not_sent; columns = c }
    ]

-- This sequence returns at this time.
unfoldable pub arriving : ℕ → ℕ → ℕ → Columns → Left (Outcome Arrival)
arriving n t q c =
    elim (leb n (capacity_of (column_lengths c))) [
      | true ↦ arriving_from n (found q (take n c.sequences)) t q c
      | false ↦ record { answer = refused malformed_observer; columns = c }
    ]
