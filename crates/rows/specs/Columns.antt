-- The columns of a run sheet, and how many rows they hold. A call is lent them in one of three structs; the definitions
-- below take what these hold as one record.
use Rattle.std.specs.Prelude.{ℕ, ◌≤◌, min, ◌≡◌, List, [], ◌∷◌, length}
use denote.Triple.Both.{Both}
use Rattle.std.specs.Borrow.{MutBor}
use Rattle.rows.specs.declared.Sheet as lent
use Rattle.rows.specs.declared.MarkedSheet.{MarkedSheet}
use Rattle.rows.specs.declared.WrittenSheet.{WrittenSheet}

-- "Lent columns: sequence, send time, latency .., mark" (document 01, leaf 6), and "a fifth column, the return time of
-- the first accepted return" (document 02, job 8).
pub record Columns : Type 0 where
  pub sequences : List ℕ
  pub send_timestamps : List ℕ
  pub latencies : List ℕ
  pub marks : List ℕ
  pub arrival_timestamps : List ℕ

abbrev pub columns_of : List ℕ → List ℕ → List ℕ → List ℕ → List ℕ → Columns
columns_of qs ts ls ms rs = record {
  sequences = qs;
  send_timestamps = ts;
  latencies = ls;
  marks = ms;
  arrival_timestamps = rs;
}

abbrev pub column_lengths : Columns → List ℕ
column_lengths c =
    length c.sequences
    ∷ length c.send_timestamps
    ∷ length c.latencies
    ∷ length c.marks
    ∷ length c.arrival_timestamps
    ∷ []

-- "Capacity is the shortest column, at most 2,048." "Capacity counts this column too" (job 8).
abbrev pub capacity_of : List ℕ → ℕ
capacity_of [] = 2048
capacity_of (n ∷ lengths) = min n (capacity_of lengths)

-- Each of these lengths is at least n.
abbrev pub EachHas : ℕ → List ℕ → Type 0
EachHas n [] = Unit {0}
EachHas n (m ∷ lengths) = (n ≤ m) × EachHas n lengths

-- What a call answers, and the columns as it leaves them.
pub record Left (Answer : Type 0) : Type 0 where
  pub answer : Answer
  pub columns : Columns

-- ---- in contracts

-- All columns, when the call begins and when it returns.
abbrev pub Sheet : Type 0
Sheet = Both Columns Columns

-- What the columns of each struct hold.
abbrev pub columns_lent : lent.Sheet → Columns
columns_lent s =
    columns_of s.sequences.now s.send_timestamps.now s.latencies.now s.marks.now s.arrival_timestamps.now

abbrev pub columns_marked : MarkedSheet → Columns
columns_marked s =
    columns_of s.sequences.now s.send_timestamps.now s.latencies.now s.marks.now s.arrival_timestamps.now

abbrev pub columns_written : WrittenSheet → Columns
columns_written s =
    columns_of s.sequences.now s.send_timestamps.now s.latencies.now s.marks.now s.arrival_timestamps.now

-- All columns of a call that only reads them.
abbrev pub read_sheet : Both lent.Sheet lent.Sheet → Sheet
read_sheet s = record { entry = columns_lent s.entry; exit = columns_lent s.exit }

-- All columns of a call that marks rows: it only reads sequences and send times.
abbrev pub marked_sheet : Both (MutBor MarkedSheet) (MutBor MarkedSheet) → Sheet
marked_sheet s = record { entry = columns_marked s.entry.now; exit = columns_marked s.exit.now }

-- All columns of a call that may write each of them.
abbrev pub written_sheet : Both (MutBor WrittenSheet) (MutBor WrittenSheet) → Sheet
written_sheet s = record { entry = columns_written s.entry.now; exit = columns_written s.exit.now }

-- A call has put no other columns in place of those that a sheet was lent: what it wrote is behind the same references.
abbrev pub SameMarked : MarkedSheet → MarkedSheet → Type 0
SameMarked s t = (s.sequences ≡ t.sequences) × (s.send_timestamps ≡ t.send_timestamps)
    × (s.latencies.ghost_name ≡ t.latencies.ghost_name)
    × (s.marks.ghost_name ≡ t.marks.ghost_name)
    × (s.arrival_timestamps.ghost_name ≡ t.arrival_timestamps.ghost_name)

abbrev pub SameWritten : WrittenSheet → WrittenSheet → Type 0
SameWritten s t = (s.sequences.ghost_name ≡ t.sequences.ghost_name)
    × (s.send_timestamps.ghost_name ≡ t.send_timestamps.ghost_name)
    × (s.latencies.ghost_name ≡ t.latencies.ghost_name)
    × (s.marks.ghost_name ≡ t.marks.ghost_name)
    × (s.arrival_timestamps.ghost_name ≡ t.arrival_timestamps.ghost_name)

-- The answer and the columns when the call returns are what the definition gives for the columns that it was lent.
abbrev pub answers : {Answer : Type 0} → Sheet → Answer → (Columns → Left Answer) → Type 0
answers s a definition = record { answer = a; columns = s.exit } ≡ definition s.entry
