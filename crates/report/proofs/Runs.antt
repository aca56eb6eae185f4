-- The loop over the runs: the longest so far, with the longest of what is left, is the whole answer; and it is leaf 7's.
use Prim.Native.Nat.{ℕ, suc, ◌+◌, ◌-◌, ◌≤◌, ◌<◌, max}
use mathlib.Core.Path.{◌≡◌, refl, ap}
use mathlib.Core.List.{List, [], ◌∷◌, map}
use mathlib.Core.Bool.{Bool, true, false}
use native.Mathlib.Omega.{arith}
use lib.Dec.{eqb, eqb-suc-zero}
use lib.ListN.{length}
use Rattle.std.specs.Prelude as code
use Rattle.observer.specs.Observer.{Row}
use Rattle.report.specs.Report.{Run, greatest, leading, run_end, runs_in}
use Rattle.report.specs.Loops.{gap_of, since_of, longest_in, outage_in, packets_of}
use Rattle.report.specs.declared.LongestRuns.{LongestRuns}
use Rattle.report.specs.declared.LostRun.{LostRun}

-- ---- the loop

abbrev pub start_of : code.Option LostRun → ℕ
start_of code.None = 0
start_of (code.Some run) = run.since

-- a run has a row
abbrev pub Begun : code.Option LostRun → Type 0
Begun code.None = Unit {0}
Begun (code.Some run) = 0 < run.packets

-- of the rows ts and ms, all but the last ones, rt and rm, are looked at; `run` stands just in front of these
pub record Running (ts ms rt rm : List ℕ) (end : ℕ) (run : code.Option LostRun) (longest : LongestRuns) : Type 0 where
  pub packets : max longest.packets (longest_in (packets_of run) rm) ≡ longest_in 0 ms
  pub duration : max longest.duration (outage_in end (packets_of run) (start_of run) rt rm) ≡ outage_in end 0 0 ts ms
  pub begun : Begun run
  pub room : packets_of run + length rm ≤ length ms
  pub same : length rt ≡ length rm

-- ---- leaf 7's runs

abbrev count_of : List Run → ℕ
count_of xs = greatest (map (λ x. x.packets) xs)

abbrev duration_of : List Run → ℕ
duration_of xs = greatest (map (λ x. x.duration) xs)

-- outside a run, and inside one of k + 1 rows so far
record LongestIs (end : ℕ) (rs : List Row) : Type 0 where
  pub outside : count_of (runs_in end false rs) ≡ longest_in 0 (map (λ r. r.mark) rs)
  pub inside : (k : ℕ) → max (suc k + leading rs) (count_of (runs_in end true rs)) ≡ longest_in (suc k) (map (λ r. r.mark) rs)

longest_is : (end : ℕ) (rs : List Row) → LongestIs end rs
longest_is end [] = record { outside = refl; inside = λ k. omega arith }
longest_is end (r ∷ rs) = go (eqb r.mark 1) refl (longest_is end rs)
  where
    go : (b : Bool) → eqb r.mark 1 ≡ b → LongestIs end rs → LongestIs end (r ∷ rs)
    go true e i =
        record {
          outside = rw (e, runs_in, longest_in) (omega (arith, i.outside));
          inside = λ k. rw (e, runs_in, longest_in, leading) (omega (arith, i.outside));
        }
    go false e i =
        record {
          outside = rw (e, runs_in, longest_in) (omega (arith, i.inside 0));
          inside = λ k. rw (e, runs_in, longest_in, leading) (omega (arith, i.inside (suc k)));
        }

pub longest_of_lem : (end : ℕ) (rs : List Row) → count_of (runs_in end false rs) ≡ longest_in 0 (map (λ r. r.mark) rs)
longest_of_lem end rs = (longest_is end rs).outside

record OutageIs (end : ℕ) (rs : List Row) : Type 0 where
  pub outside : (since : ℕ) → duration_of (runs_in end false rs) ≡ outage_in end 0 since (map (λ r. r.send_timestamp_ns) rs) (map (λ r. r.mark) rs)
  pub inside : (k since : ℕ)
      → max (run_end end rs - since) (duration_of (runs_in end true rs)) ≡ outage_in end (suc k) since (map (λ r. r.send_timestamp_ns) rs) (map (λ r. r.mark) rs)

outage_is : (end : ℕ) (rs : List Row) → OutageIs end rs
outage_is end [] = record { outside = λ since. refl; inside = λ k since. rw (eqb-suc-zero k, gap_of) (omega arith) }
outage_is end (r ∷ rs) = go (eqb r.mark 1) refl (outage_is end rs)
  where
    go : (b : Bool) → eqb r.mark 1 ≡ b → OutageIs end rs → OutageIs end (r ∷ rs)
    go true e i =
        record {
          outside = λ since. rw (e, runs_in, outage_in) (omega (arith, i.outside 0));
          inside = λ k since. rw (e, runs_in, outage_in, run_end, eqb-suc-zero k, gap_of) (ap (max (r.send_timestamp_ns - since)) (i.outside 0));
        }
    go false e i =
        record {
          outside = λ since. rw (e, runs_in, outage_in) (i.inside 0 r.send_timestamp_ns);
          inside = λ k since. rw (e, runs_in, outage_in, run_end, eqb-suc-zero k, since_of) (i.inside (suc k) since);
        }

pub outage_of : (end : ℕ) (rs : List Row) → duration_of (runs_in end false rs) ≡ outage_in end 0 0 (map (λ r. r.send_timestamp_ns) rs) (map (λ r. r.mark) rs)
outage_of end rs = (outage_is end rs).outside 0
