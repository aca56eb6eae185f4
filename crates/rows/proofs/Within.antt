-- How many rows there is room for.
use Prim.Native.Nat.{ℕ, ◌≤◌, ◌<◌}
use mathlib.Core.Path.{◌≡◌, refl}
use mathlib.Core.Bool.{true}
use mathlib.Core.List.{List, [], ◌∷◌}
use native.Mathlib.Omega.{arith}
use lib.ListN.{length, take, length-take}
use Rattle.columns.specs.Place.{holds, found}
use Rattle.columns.proofs.Search.{held_within}
use Rattle.rows.specs.Columns.{Columns, column_lengths, capacity_of, EachHas}
use Rattle.rows.specs.Search.{RowOf}

-- every column has this many entries, and it is at most 2,048
pub record Within (n : ℕ) (c : Columns) : Type 0 where
  pub sequences : n ≤ length c.sequences
  pub send_timestamps : n ≤ length c.send_timestamps
  pub latencies : n ≤ length c.latencies
  pub marks : n ≤ length c.marks
  pub arrival_timestamps : n ≤ length c.arrival_timestamps
  pub most : n ≤ 2048

pub within : (n : ℕ) (c : Columns) → n ≤ capacity_of (column_lengths c) → Within n c
within n c h =
    record {
      sequences = omega arith;
      send_timestamps = omega arith;
      latencies = omega arith;
      marks = omega arith;
      arrival_timestamps = omega arith;
      most = omega arith;
    }

-- a row that has the sequence is in use
pub held_used : (q k n : ℕ) (column : List ℕ) → holds q k (take n column) ≡ true → k < n
held_used q k n column e = omega (arith, held_within q k (take n column) e, length-take n column)

-- where the used rows fit, each column has the row of a sequence
pub row_of : (q k n : ℕ) (c : Columns) → n ≤ capacity_of (column_lengths c) → k ≡ found q (take n c.sequences) → holds q k (take n c.sequences) ≡ true → RowOf q n c k
row_of q k n c fits at held =
    let w = within n c fits in
    let used = held_used q k n c.sequences held in
    record {
      at = at;
      held = held;
      send_timestamps = omega (arith, used, w.send_timestamps);
      latencies = omega (arith, used, w.latencies);
      marks = omega (arith, used, w.marks);
      arrival_timestamps = omega (arith, used, w.arrival_timestamps);
      most = omega (arith, used, w.most);
    }

-- columns of 2,048 entries or more hold 2,048 rows
pub holds_2048 : (lengths : List ℕ) → EachHas 2048 lengths → capacity_of lengths ≡ 2048
holds_2048 [] h = refl
holds_2048 (n ∷ lengths) h = omega (arith, h.0, holds_2048 lengths h.1)
