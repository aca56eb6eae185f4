-- The observer: document 01's run sheet (leaf 6; the Rust's `ContinuityObserver`, whose maps are sorted columns here).
-- The columns are lent and make rows. Every call is defined on the used rows, as a list; `with_rows` puts a list of
-- rows back into the columns.
use Rattle.std.specs.Prelude.{ℕ, List, [], ◌∷◌, ◌++◌, map, length, take, drop, get_or}
use Rattle.rows.specs.Columns.{Columns, column_lengths, capacity_of}
use Rattle.observer.specs.Counts.{with_used}
use Rattle.observer.specs.declared.ObserverCounts.{ObserverCounts}

-- A packet that was sent: "sequence, send time, latency (u64 each), mark (u8, 1 returned, 0 not)", and "a fifth column,
-- the return time of the first accepted return, 0 while the mark is 0" (document 02, job 8).
pub record Row : Type 0 where
  pub sequence : ℕ
  pub send_timestamp_ns : ℕ
  pub latency : ℕ
  pub mark : ℕ
  pub arrival_timestamp_ns : ℕ

-- The lent columns, and the counts beside them.
pub record Observer : Type 0 where
  pub columns : Columns
  pub counts : ObserverCounts

-- "Capacity is the shortest column, at most 2,048", of all five.
unfoldable pub capacity : Observer → ℕ
capacity o = capacity_of (column_lengths o.columns)

-- Each function applied to the entry beside it, as far as both lists reach.
abbrev pub beside : {A : Type 0} → List (ℕ → A) → List ℕ → List A
beside [] xs = []
beside (f ∷ fs) [] = []
beside (f ∷ fs) (x ∷ xs) = f x ∷ beside fs xs

abbrev pub row_of_fields : ℕ → ℕ → ℕ → ℕ → ℕ → Row
row_of_fields q t l m a = record {
  sequence = q;
  send_timestamp_ns = t;
  latency = l;
  mark = m;
  arrival_timestamp_ns = a;
}

-- The rows that columns make: as many as the shortest has.
abbrev pub rows_of : Columns → List Row
rows_of c =
    beside
    (beside (beside (beside (map row_of_fields c.sequences) c.send_timestamps) c.latencies) c.marks)
    c.arrival_timestamps

-- the used rows
unfoldable pub rows : Observer → List Row
rows o = take o.counts.used (rows_of o.columns)

abbrev pub sequences_of : List Row → List ℕ
sequences_of rs = map (λ r. r.sequence) rs

abbrev pub marks_of : List Row → List ℕ
marks_of rs = map (λ r. r.mark) rs

abbrev pub arrivals_of : List Row → List ℕ
arrivals_of rs = map (λ r. r.arrival_timestamp_ns) rs

-- "A new sent row has latency 0, mark 0", and arrival time 0.
abbrev pub sent_row : ℕ → ℕ → Row
sent_row q t = row_of_fields q t 0 0 0

-- Row k. (No definition looks past the last row.)
abbrev pub row_at : ℕ → List Row → Row
row_at k rs = get_or rs k (sent_row 0 0)

-- A column whose first entries are one field of the rows: "rows past the new count keep their contents".
abbrev pub column : (Row → ℕ) → List Row → List ℕ → List ℕ
column field rs old = map field rs ++ drop (length rs) old

abbrev pub columns_with : List Row → Columns → Columns
columns_with rs c = record {
  sequences = column (λ r. r.sequence) rs c.sequences;
  send_timestamps = column (λ r. r.send_timestamp_ns) rs c.send_timestamps;
  latencies = column (λ r. r.latency) rs c.latencies;
  marks = column (λ r. r.mark) rs c.marks;
  arrival_timestamps = column (λ r. r.arrival_timestamp_ns) rs c.arrival_timestamps;
}

-- The observer with these for its used rows.
unfoldable pub with_rows : List Row → Observer → Observer
with_rows rs o = record { columns = columns_with rs o.columns; counts = with_used (length rs) o.counts }

abbrev pub with_counts : ObserverCounts → Observer → Observer
with_counts c o = record { columns = o.columns; counts = c }
