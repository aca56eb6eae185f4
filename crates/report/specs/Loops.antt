-- What the report's loops compute over the columns, with what they carry: for their contracts. Proved to be leaf 7's
-- definitions in proofs/.
use Rattle.std.specs.Prelude.{ℕ, suc, ◌-◌, ◌*◌, ◌/◌, ◌≤◌, max, ◌≡◌, List, [], ◌∷◌, true, false, eqb, length}
use Rattle.std.specs.Prelude as code
use Rattle.std.proofs.Math.Option.{Option, some, none}
use Rattle.evidence.specs.declared.LatencySummary.{LatencySummary}
use Rattle.report.specs.Report.{total, greatest, least}
use Rattle.report.specs.declared.Gathered.{Gathered}
use Rattle.report.specs.declared.LongestRuns.{LongestRuns}
use Rattle.report.specs.declared.LostRun.{LostRun}

-- the latencies whose mark is 1
abbrev pub marked_of : List ℕ → List ℕ → List ℕ
marked_of [] ms = []
marked_of (l ∷ ls) [] = []
marked_of (l ∷ ls) (m ∷ ms) = elim (eqb m 1) [ true ↦ l ∷ marked_of ls ms | false ↦ marked_of ls ms ]

-- what the latency loop has gathered of a list
pub record Gathers (xs : List ℕ) (g : Gathered) : Type 0 where
  pub count : g.count ≡ length xs
  pub least : g.least ≡ least 18446744073709551615 xs
  pub greatest : g.greatest ≡ greatest xs
  pub sum : g.sum ≡ total xs
  pub bounded : g.sum ≤ g.count * 18446744073709551615
  pub fits : g.greatest ≤ 18446744073709551615

-- the summary of n latencies
abbrev pub summary_of : ℕ → ℕ → ℕ → ℕ → Option LatencySummary
summary_of n low high sum =
    elim (eqb n 0) [ true ↦ none | false ↦ some (record { min_ns = low; max_ns = high; avg_ns = sum / n }) ]

-- how long a run of n rows that began at `since` lasts; 0 if there is no run
abbrev pub gap_of : ℕ → ℕ → ℕ → ℕ
gap_of n since until = elim (eqb n 0) [ true ↦ 0 | false ↦ until - since ]

-- the start of a run of n rows that began at `since`, after one more row sent at `sent`
abbrev pub since_of : ℕ → ℕ → ℕ → ℕ
since_of n since sent = elim (eqb n 0) [ true ↦ sent | false ↦ since ]

-- the longest run by count, where n unmarked rows stand just in front
abbrev pub longest_in : ℕ → List ℕ → ℕ
longest_in n [] = n
longest_in n (m ∷ ms) = elim (eqb m 1) [ true ↦ max n (longest_in 0 ms) | false ↦ longest_in (suc n) ms ]

-- the longest run by duration, where n unmarked rows that began at `since` stand just in front
abbrev pub outage_in : ℕ → ℕ → ℕ → List ℕ → List ℕ → ℕ
outage_in end n since [] ms = gap_of n since end
outage_in end n since (t ∷ ts) [] = gap_of n since end
outage_in end n since (t ∷ ts) (m ∷ ms) =
    elim (eqb m 1) [
      | true ↦ max (gap_of n since t) (outage_in end 0 0 ts ms)
      | false ↦ outage_in end (suc n) (since_of n since t) ts ms
    ]

-- the rows of a run so far, and how long it lasts if it ends at `until`; 0 if there is no run
abbrev pub packets_of : code.Option LostRun → ℕ
packets_of code.None = 0
packets_of (code.Some run) = run.packets

abbrev pub lasts : code.Option LostRun → ℕ → ℕ
lasts code.None until = 0
lasts (code.Some run) until = until - run.since

-- the longest runs after one more, that ends at `until`
pub record AddsRun (before : LongestRuns) (run : code.Option LostRun) (until : ℕ) (after : LongestRuns) : Type 0 where
  pub packets : after.packets ≡ max before.packets (packets_of run)
  pub duration : after.duration ≡ max before.duration (lasts run until)
