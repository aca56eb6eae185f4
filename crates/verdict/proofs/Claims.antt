-- The claims of specs/Claims.antt, proved.
use Prim.Native.Nat.{ℕ, ◌≤◌, ◌<◌}
use native.Mathlib.Omega.{arith}
use mathlib.Core.Path.{◌≡◌, refl, sym, ap, ◌∙◌}
use mathlib.Core.Bool.{Bool, true, false, not}
use lib.Dec.{ltb}
use borrow.Author.Tests.{ltb-true, ltb-false}
use Rattle.evidence.specs.declared.PacketContinuityReport.{PacketContinuityReport}
use Rattle.verdict.specs.Verdict.{either, verdict_of}
use Rattle.verdict.specs.Claims.{Judged, PassesIfKept, Reasons, ReasonsAreTrue}
use Rattle.verdict.specs.declared.Verdict.{Verdict}
use Rattle.verdict.specs.declared.Verdict.TheVariants.{Pass, NothingReturned, TooManyLost, TooManyInARow, OutageTooLong, ErrorIndicated}

-- verdicts of two kinds are not the same
abbrev kind_of : Verdict → ℕ
kind_of Pass = 0
kind_of NothingReturned = 1
kind_of (TooManyLost n m) = 2
kind_of (TooManyInARow n m) = 3
kind_of (OutageTooLong n m) = 4
kind_of (ErrorIndicated n) = 5

-- where the test holds it is the first verdict, and where not the second
taken : (test : Bool) (first second : Verdict) → test ≡ true → either test first second ≡ first
unfolding either
taken test first second holds = rw holds refl

left : (test : Bool) (first second : Verdict) → test ≡ false → either test first second ≡ second
unfolding either
left test first second fails = rw fails refl

-- a verdict that is not the first is the second, and the test does not hold
past : (test : Bool) (first second verdict : Verdict) → (kind_of first ≡ kind_of verdict → ⊥) → either test first second ≡ verdict
    → (test ≡ false) × (second ≡ verdict)
unfolding either
past true first second verdict other e = absurd (other (ap kind_of e))
past false first second verdict other e = (refl, e)

-- a verdict that is not the second is the first, and the test holds
here : (test : Bool) (first second verdict : Verdict) → (kind_of second ≡ kind_of verdict → ⊥) → either test first second ≡ verdict
    → (test ≡ true) × (first ≡ verdict)
unfolding either
here true first second verdict other e = (refl, e)
here false first second verdict other e = absurd (other (ap kind_of e))

-- what follows has a kind of those that follow
later : (test : Bool) (first second : Verdict) (k : ℕ) → k < kind_of first → k < kind_of second → k < kind_of (either test first second)
unfolding either
later true first second k h i = h
later false first second k h i = i

module _ (r : PacketContinuityReport) where
  -- the tests of the definition, and what follows each
  abbrev lost_test : Bool
  lost_test = ltb r.budget.max_lost_packets r.lost_packets

  abbrev row_test : Bool
  row_test = ltb r.budget.max_consecutive_lost_packets r.max_consecutive_lost_packets

  abbrev outage_test : Bool
  outage_test = ltb r.budget.outage_budget_ns r.max_gap_duration_ns

  abbrev error : Verdict
  error = ErrorIndicated r.gtpu_error_indications

  abbrev outages : Verdict
  outages = either outage_test (OutageTooLong r.max_gap_duration_ns r.budget.outage_budget_ns) error

  abbrev rows : Verdict
  rows =
      either row_test (TooManyInARow r.max_consecutive_lost_packets r.budget.max_consecutive_lost_packets) outages

  abbrev losses : Verdict
  losses = either lost_test (TooManyLost r.lost_packets r.budget.max_lost_packets) rows

  abbrev budgets : Verdict
  budgets = either r.packet_continuity_proven Pass losses

  rows_later : 2 < kind_of rows
  rows_later = later row_test _ outages 2 (omega arith) (later outage_test _ error 2 (omega arith) (omega arith))

  outages_later : 3 < kind_of outages
  outages_later = later outage_test _ error 3 (omega arith) (omega arith)

  losses_later : 1 < kind_of losses
  losses_later = later lost_test _ rows 1 (omega arith) (omega (arith, rows_later))

  -- where something returned, what is left is the budget's
  returned : (v : Verdict) → (1 ≡ kind_of v → ⊥) → verdict_of r ≡ v → budgets ≡ v
  unfolding verdict_of
  returned v other e = (past (not r.forwarding_proven) NothingReturned budgets v other e).1

  -- where moreover it does not pass, it is a reason of the budget's
  broken_by : (v : Verdict) → 1 < kind_of v → verdict_of r ≡ v → losses ≡ v
  broken_by v h e =
      (past r.packet_continuity_proven Pass losses v (λ f. omega arith) (returned v (λ f. omega arith) e)).1

  within_lost : (v : Verdict) → 2 < kind_of v → verdict_of r ≡ v → (r.lost_packets ≤ r.budget.max_lost_packets) × (rows ≡ v)
  within_lost v h e =
      let p = past lost_test _ rows v (λ f. omega arith) (broken_by v (omega arith) e) in (ltb-false _ _ p.0, p.1)

  within_row : (v : Verdict) → 3 < kind_of v → verdict_of r ≡ v
      → (r.max_consecutive_lost_packets ≤ r.budget.max_consecutive_lost_packets) × (outages ≡ v)
  within_row v h e =
      let p = past row_test _ outages v (λ f. omega arith) (within_lost v (omega arith) e).1 in (ltb-false _ _ p.0, p.1)

  -- nor is the budget ever a reason to say that nothing returned
  budget_says_other : (test : Bool) → kind_of (either test Pass losses) ≡ 1 → ⊥
  unfolding either
  budget_says_other true e = omega arith
  budget_says_other false e = omega (arith, losses_later)

  judged : Judged r
  unfolding verdict_of
  judged = record {
    kept = λ f c. left _ _ _ (ap not f) ∙ taken _ _ _ c;
    broken = λ c e.
        omega (arith, losses_later, ap kind_of (sym (left _ Pass losses c) ∙ returned Pass (λ f. omega arith) e));
    nothing = λ f. taken _ _ _ (ap not f);
    something = λ f e.
        budget_says_other r.packet_continuity_proven (ap kind_of (sym (left _ NothingReturned budgets (ap not f)) ∙ e));
  }

  reasons : Reasons r
  reasons = record {
    lost = λ n m e.
        let p = here lost_test _ rows (TooManyLost n m) (λ f. omega (arith, rows_later)) (broken_by (TooManyLost n m) (omega arith) e) in
        let q = p.1 in
        record { the_number = cc; the_budget = cc; above = ltb-true _ _ p.0 };
    in_a_row = λ n m e.
        let w = within_lost (TooManyInARow n m) (omega arith) e in
        let p = here row_test _ outages (TooManyInARow n m) (λ f. omega (arith, outages_later)) w.1 in
        let q = p.1 in
        (record { the_number = cc; the_budget = cc; above = ltb-true _ _ p.0 }, w.0);
    outage = λ n m e.
        let w = within_lost (OutageTooLong n m) (omega arith) e in
        let x = within_row (OutageTooLong n m) (omega arith) e in
        let p = here outage_test _ error (OutageTooLong n m) (λ f. omega arith) x.1 in
        let q = p.1 in
        (record { the_number = cc; the_budget = cc; above = ltb-true _ _ p.0 }, w.0, x.0);
    indicated = λ n e.
        let w = within_lost (ErrorIndicated n) (omega arith) e in
        let x = within_row (ErrorIndicated n) (omega arith) e in
        let p = past outage_test _ error (ErrorIndicated n) (λ f. omega arith) x.1 in
        let q = p.1 in
        (cc, w.0, x.0, ltb-false _ _ p.0);
  }

pub passes_if_kept : PassesIfKept
passes_if_kept r = judged r

pub reasons_are_true : ReasonsAreTrue
reasons_are_true r = reasons r
