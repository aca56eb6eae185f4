-- The latency loop: what is gathered so far, with what is left, is the whole answer; and the summary of it is leaf 7's.
use Prim.Native.Nat.{ℕ, suc, ◌+◌, ◌*◌, ◌/◌, ◌≤◌, min, max}
use mathlib.Core.Path.{◌≡◌, refl, ap}
use mathlib.Core.List.{List, [], ◌∷◌, map}
use mathlib.Core.Bool.{Bool, true, false}
use mathlib.Core.Option.{some}
use native.Mathlib.Omega.{arith}
use lib.Dec.{eqb, eqb-suc-zero}
use lib.ListN.{length}
use Rattle.observer.specs.Observer.{Row}
use Rattle.report.specs.Report.{latencies_of, total, greatest, least, latency_of}
use Rattle.report.specs.Loops.{marked_of, Gathers, summary_of}
use Rattle.report.specs.declared.Gathered.{Gathered}

-- of the rows ls and ms, all but the last ones, rl and rm, are gathered
pub record Gathering (ls ms rl rm : List ℕ) (g : Gathered) : Type 0 where
  pub count : g.count + length (marked_of rl rm) ≡ length (marked_of ls ms)
  pub least : least g.least (marked_of rl rm) ≡ least 18446744073709551615 (marked_of ls ms)
  pub greatest : max g.greatest (greatest (marked_of rl rm)) ≡ greatest (marked_of ls ms)
  pub sum : g.sum + total (marked_of rl rm) ≡ total (marked_of ls ms)
  pub bounded : g.sum ≤ g.count * 18446744073709551615
  pub fits : g.greatest ≤ 18446744073709551615
  pub room : g.count + length rl ≤ length ls
  pub same : length rl ≡ length rm

pub least_min : (a b : ℕ) (xs : List ℕ) → least (min a b) xs ≡ min a (least b xs)
least_min a b [] = refl
least_min a b (x ∷ xs) = omega arith

pub few_marked : (ls ms : List ℕ) → length (marked_of ls ms) ≤ length ls
few_marked [] ms = omega arith
few_marked (l ∷ ls) [] = omega arith
few_marked (l ∷ ls) (m ∷ ms) = go (eqb m 1) (few_marked ls ms)
  where
    go : (b : Bool) → length (marked_of ls ms) ≤ length ls → length {A = ℕ} (elim b [ true ↦ l ∷ marked_of ls ms | false ↦ marked_of ls ms ]) ≤ suc (length ls)
    go true h = omega arith
    go false h = omega arith

-- ---- the summary

pub marked_of_lem : (rs : List Row) → latencies_of rs ≡ marked_of (map (λ r. r.latency) rs) (map (λ r. r.mark) rs)
marked_of_lem [] = refl
marked_of_lem (r ∷ rs) = ap (λ (l : List ℕ). elim (eqb r.mark 1) [ true ↦ r.latency ∷ l | false ↦ l ]) (marked_of_lem rs)

least_first : (x : ℕ) (xs : List ℕ) → least x xs ≤ x
least_first x [] = omega arith
least_first x (y ∷ xs) = omega arith

summary_is : (xs : List ℕ) → greatest xs ≤ 18446744073709551615
    → summary_of (length xs) (least 18446744073709551615 xs) (greatest xs) (total xs) ≡ latency_of xs
summary_is [] h = refl
summary_is (x ∷ xs) h =
    let low : min 18446744073709551615 (least x xs) ≡ least x xs = omega (arith, least_first x xs) in
    rw (eqb-suc-zero (length xs), summary_of) (ap (λ (low : ℕ). some (record { min_ns = low; max_ns = greatest (x ∷ xs); avg_ns = total (x ∷ xs) / length (x ∷ xs) })) low)

pub summary_of_lem : (xs : List ℕ) (g : Gathered) → Gathers xs g → summary_of g.count g.least g.greatest g.sum ≡ latency_of xs
summary_of_lem xs g k = rw (k.count, k.least, k.greatest, k.sum) (summary_is xs (omega (arith, k.greatest, k.fits)))
