-- Rows and columns: the used rows are the fronts of the columns, and what `with_rows` writes, column by column, as stores and insertions.
use Prim.Native.Nat.{ℕ, zero, suc, ◌≤◌, ◌<◌}
use mathlib.Core.Path.{◌≡◌, refl, sym, ap, ◌∙◌}
use mathlib.Core.List.{List, [], ◌∷◌, ◌++◌, map, append_assoc}
use native.Mathlib.Nat.{not-suc-le-zero, le_of_suc-le-suc}
use native.Mathlib.Omega.{arith}
use lib.ListN.{length, get_or, set, take, drop, take-append-drop, length-set, length-take, length-map, length-append, length-drop}
use lib.Seq.{set-append_left, map-set_same, take-take, take-append_seam, get_or-take, slice}
use Rattle.observer.specs.Counts.{with_used}
use Rattle.observer.specs.Observer.{Row, Observer, capacity, rows_of, rows, sent_row, row_at, column, with_rows}
use Rattle.columns.specs.Columns.{inserted}
use Rattle.rows.specs.Columns.{Columns, columns_of}
use Rattle.columns.proofs.Insertion.{inserted_is}
use Rattle.rows.proofs.Within.{Within, within}

-- every column has this many entries
pub room_for : (n : ℕ) (o : Observer) → n ≤ capacity o → Within n o.columns
unfolding capacity
room_for n o h = within n o.columns h

-- ---- the used rows

-- each field of the rows is the front of its column
pub record Fronts (n : ℕ) (rs : List Row) (c : Columns) : Type 0 where
  pub count : length rs ≡ n
  pub sequences : map (λ r. r.sequence) rs ≡ take n c.sequences
  pub send_timestamps : map (λ r. r.send_timestamp_ns) rs ≡ take n c.send_timestamps
  pub latencies : map (λ r. r.latency) rs ≡ take n c.latencies
  pub marks : map (λ r. r.mark) rs ≡ take n c.marks
  pub arrival_timestamps : map (λ r. r.arrival_timestamp_ns) rs ≡ take n c.arrival_timestamps

fronts : (n : ℕ) (a b c d e : List ℕ) → n ≤ length a → n ≤ length b → n ≤ length c → n ≤ length d → n ≤ length e
    → Fronts n (take n (rows_of (columns_of a b c d e))) (columns_of a b c d e)
fronts zero a b c d e h i j k l =
    record { count = refl; sequences = refl; send_timestamps = refl; latencies = refl; marks = refl; arrival_timestamps = refl }
fronts (suc n) [] b c d e h i j k l = absurd (not-suc-le-zero h)
fronts (suc n) (q ∷ a) [] c d e h i j k l = absurd (not-suc-le-zero i)
fronts (suc n) (q ∷ a) (t ∷ b) [] d e h i j k l = absurd (not-suc-le-zero j)
fronts (suc n) (q ∷ a) (t ∷ b) (x ∷ c) [] e h i j k l = absurd (not-suc-le-zero k)
fronts (suc n) (q ∷ a) (t ∷ b) (x ∷ c) (m ∷ d) [] h i j k l = absurd (not-suc-le-zero l)
fronts (suc n) (q ∷ a) (t ∷ b) (x ∷ c) (m ∷ d) (r ∷ e) h i j k l =
    let f = fronts n a b c d e (le_of_suc-le-suc h) (le_of_suc-le-suc i) (le_of_suc-le-suc j) (le_of_suc-le-suc k) (le_of_suc-le-suc l) in
    record {
      count = ap suc f.count;
      sequences = ap (λ (y : List ℕ). q ∷ y) f.sequences;
      send_timestamps = ap (λ (y : List ℕ). t ∷ y) f.send_timestamps;
      latencies = ap (λ (y : List ℕ). x ∷ y) f.latencies;
      marks = ap (λ (y : List ℕ). m ∷ y) f.marks;
      arrival_timestamps = ap (λ (y : List ℕ). r ∷ y) f.arrival_timestamps;
    }

pub rows_are : (o : Observer) → o.counts.used ≤ capacity o
    → Fronts o.counts.used (rows o) o.columns
unfolding rows
rows_are o fits =
    let w = room_for o.counts.used o fits in
    fronts o.counts.used o.columns.sequences o.columns.send_timestamps o.columns.latencies o.columns.marks o.columns.arrival_timestamps w.sequences w.send_timestamps w.latencies w.marks w.arrival_timestamps

pub field_at : (field : Row → ℕ) (rs : List Row) (k : ℕ) → k < length rs → get_or (map field rs) k 0 ≡ field (row_at k rs)
field_at field [] k h = absurd (omega arith)
field_at field (r ∷ rs) zero h = refl
field_at field (r ∷ rs) (suc k) h = field_at field rs k (le_of_suc-le-suc h)

-- a field of row k is entry k of its column
pub entry_is : (field : Row → ℕ) (rs : List Row) (n : ℕ) (old : List ℕ) → map field rs ≡ take n old → length rs ≡ n
    → (k : ℕ) → k < n → field (row_at k rs) ≡ get_or old k 0
entry_is field rs n old e l k h =
    sym (field_at field rs k (omega arith)) ∙ ap (λ (x : List ℕ). get_or x k 0) e ∙ get_or-take n old k 0 h

-- ---- rows put back

rows_of_front : (rs : List Row) (a b c d e : List ℕ)
    → rows_of (columns_of (map (λ r. r.sequence) rs ++ a) (map (λ r. r.send_timestamp_ns) rs ++ b) (map (λ r. r.latency) rs ++ c) (map (λ r. r.mark) rs ++ d) (map (λ r. r.arrival_timestamp_ns) rs ++ e))
    ≡ rs ++ rows_of (columns_of a b c d e)
rows_of_front [] a b c d e = refl
rows_of_front (r ∷ rs) a b c d e = ap (λ (l : List Row). r ∷ l) (rows_of_front rs a b c d e)

-- the rows that were put back are the used rows
pub rows_with : (rs : List Row) (o : Observer) → rows (with_rows rs o) ≡ rs
unfolding rows with_rows
rows_with rs o =
    ap (take (length rs))
    (rows_of_front rs (drop (length rs) o.columns.sequences) (drop (length rs) o.columns.send_timestamps) (drop (length rs) o.columns.latencies) (drop (length rs) o.columns.marks) (drop (length rs) o.columns.arrival_timestamps))
    ∙ take-append_seam rs _

pub counts_with : (rs : List Row) (o : Observer) → (with_rows rs o).counts ≡ with_used (length rs) o.counts
unfolding with_rows
counts_with rs o = refl

-- a row put in at k
abbrev pub put_in : ℕ → Row → List Row → List Row
put_in k r rs = take k rs ++ r ∷ drop k rs

pub length_put : (k : ℕ) (r : Row) (rs : List Row) → length (put_in k r rs) ≡ suc (length rs)
length_put k r rs = simp (length-append, length-take, length-drop) (omega arith)

length_column : (field : Row → ℕ) (rs : List Row) (old : List ℕ) → length rs ≤ length old → length (column field rs old) ≡ length old
length_column field rs old h = simp (length-append, length-map, length-drop) (omega arith)

-- rows for which there is room leave the capacity as it was
pub capacity_with : (rs : List Row) (o : Observer) → length rs ≤ capacity o → capacity (with_rows rs o) ≡ capacity o
unfolding with_rows capacity
capacity_with rs o h =
    let w = room_for (length rs) o h in
    rw (
      length_column (λ r. r.sequence) rs o.columns.sequences w.sequences,
      length_column (λ r. r.send_timestamp_ns) rs o.columns.send_timestamps w.send_timestamps,
      length_column (λ r. r.latency) rs o.columns.latencies w.latencies,
      length_column (λ r. r.mark) rs o.columns.marks w.marks,
      length_column (λ r. r.arrival_timestamp_ns) rs o.columns.arrival_timestamps w.arrival_timestamps,
    )

-- ---- column by column

map_set : (field : Row → ℕ) (rs : List Row) (k : ℕ) (r : Row) → map field (set rs k r) ≡ set (map field rs) k (field r)
map_set field [] k r = refl
map_set field (x ∷ rs) zero r = refl
map_set field (x ∷ rs) (suc k) r = ap (λ (l : List ℕ). field x ∷ l) (map_set field rs k r)

pub map_put : (field : Row → ℕ) (rs : List Row) (k : ℕ) (r : Row) → map field (put_in k r rs) ≡ take k (map field rs) ++ field r ∷ drop k (map field rs)
map_put field rs zero r = refl
map_put field [] (suc k) r = refl
map_put field (x ∷ rs) (suc k) r = ap (λ (l : List ℕ). field x ∷ l) (map_put field rs k r)

module _ (field : Row → ℕ) (rs : List Row) (old : List ℕ) {n : ℕ} (count : length rs ≡ n) (front : map field rs ≡ take n old) (k : ℕ) (r : Row) where
  -- row k is another: its field is stored
  pub column_set : k < n → column field (set rs k r) old ≡ set old k (field r)
  column_set h =
      let l : k < length (take n old) = omega (arith, length-map rs field, ap length front) in
      rw (length-set rs k r, map_set field rs k r, front, count)
      (sym (set-append_left (take n old) (drop n old) k (field r) l)
      ∙ ap (λ (x : List ℕ). set x k (field r)) (take-append-drop n old))

  -- row k is another with the same field: nothing is stored
  pub column_same : field r ≡ field (row_at k rs) → column field (set rs k r) old ≡ old
  column_same h = rw (length-set rs k r, map-set_same field rs k r (sent_row 0 0) h, front, count) (take-append-drop n old)

  -- a row is put in: so is its field
  pub column_put : k ≤ n → n < length old → column field (put_in k r rs) old ≡ inserted n k (field r) old
  column_put h free =
      rw (length_put k r rs, map_put field rs k r, front, count, take-take k n old h)
      (append_assoc (take k old) (field r ∷ slice k n old) (drop (suc n) old)
      ∙ inserted_is n k (field r) old h free)
