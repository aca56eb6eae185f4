-- The first cause of a plan that holds, forwards from the tests and backwards from the outcome, as `Causes` of the crate error has it for other rows.
use Prim.Native.Nat.{ℕ}
use mathlib.Core.Path.{◌≡◌, refl, sym}
use mathlib.Core.List.{List, [], ◌∷◌, ◌++◌}
use mathlib.Core.Bool.{Bool, true, false}
use Rattle.error.specs.Outcome.{refused, gives, Cause, ◌⇒◌, first_cause}
use Rattle.error.proofs.Causes as causes
use Rattle.error.proofs.Causes.{refused_gives}
use Rattle.measurement.specs.declared.MeasurementHeader.{MeasurementHeader}
use Rattle.plan.specs.Plan.{PlanCause, ◌⇒◌leaves◌, leaving, Judged, first_plan_cause}

abbrev pub refused_at : ℕ → ℕ → Judged
refused_at number next = record { outcome = refused number; next = next }

-- the row with this number and this next sequence is the first that holds
pub data Refuses : List PlanCause → ℕ → ℕ → Type 0 where
  here : {t : Bool} {n next : ℕ} {rows : List PlanCause} → t ≡ true → Refuses ((t ⇒ n leaves next) ∷ rows) n next
  later : {t : Bool} {m kept n next : ℕ} {rows : List PlanCause} → t ≡ false → Refuses rows n next → Refuses ((t ⇒ m leaves kept) ∷ rows) n next

-- no row holds
pub data Passes : List PlanCause → Type 0 where
  none : Passes []
  past : {t : Bool} {m kept : ℕ} {rows : List PlanCause} → t ≡ false → Passes rows → Passes ((t ⇒ m leaves kept) ∷ rows)

pub refuses : {rows : List PlanCause} {n next : ℕ} (o : Judged) → Refuses rows n next → refused_at n next ≡ first_plan_cause rows o
unfolding first_plan_cause
refuses o (here e) = rw (e, first_plan_cause)
refuses o (later e r) = rw (e, first_plan_cause) (refuses o r)

pub passes : {rows : List PlanCause} (o : Judged) → Passes rows → o ≡ first_plan_cause rows o
unfolding first_plan_cause
passes o none = refl
passes o (past e r) = rw (e, first_plan_cause) (passes o r)

-- what was given passed every row
pub passed : (rows : List PlanCause) (o : Judged) (x : List MeasurementHeader) → (first_plan_cause rows o).outcome ≡ gives x → Passes rows × (o.outcome ≡ gives x)
unfolding first_plan_cause
passed [] o x e = (none, e)
passed ((true ⇒ n leaves next) ∷ rows) o x e = absurd (refused_gives e)
passed ((false ⇒ n leaves next) ∷ rows) o x e = let p = passed rows o x e in (past refl p.0, p.1)

-- rows that leave the next sequence as it was
module _ (next : ℕ) where
  pub leaving_refuses : {rows : List Cause} {n : ℕ} → causes.Refuses rows n → Refuses (leaving next rows) n next
  unfolding leaving
  leaving_refuses (causes.here e) = here e
  leaving_refuses (causes.later e r) = later e (leaving_refuses r)

  pub leaving_passes : {rows : List Cause} → causes.Passes rows → Passes (leaving next rows)
  unfolding leaving
  leaving_passes causes.none = none
  leaving_passes (causes.past e r) = past e (leaving_passes r)

  pub passed_leaving : (rows : List Cause) → Passes (leaving next rows) → causes.Passes rows
  unfolding leaving
  passed_leaving [] p = causes.none
  passed_leaving ((t ⇒ n) ∷ rows) (past e p) = causes.past e (passed_leaving rows p)

-- rows in front of others
pub passed_both : (rows : List Cause) {more : List Cause} → causes.Passes (rows ++ more) → causes.Passes rows × causes.Passes more
passed_both [] p = (causes.none, p)
passed_both (r ∷ rows) (causes.past e p) = let q = passed_both rows p in (causes.past e q.0, q.1)

-- a refusal has its row
pub refused_by : {A : Type 0} (rows : List Cause) (x : A) (n : ℕ) → first_cause rows (gives x) ≡ refused n → causes.Refuses rows n
unfolding first_cause
refused_by [] x n e = absurd (refused_gives (sym e))
refused_by ((true ⇒ m) ∷ rows) x n e = let same : m ≡ n = cc in rw (sym same) (causes.here refl)
refused_by ((false ⇒ m) ∷ rows) x n e = causes.later refl (refused_by rows x n e)

-- rows of one packet in front of those of the next
pub refuses_front : {rows : List PlanCause} {n next : ℕ} (more : List PlanCause) → Refuses rows n next → Refuses (rows ++ more) n next
refuses_front more (here e) = here e
refuses_front more (later e r) = later e (refuses_front more r)

pub refuses_behind : {rows more : List PlanCause} {n next : ℕ} → Passes rows → Refuses more n next → Refuses (rows ++ more) n next
refuses_behind none r = r
refuses_behind (past e p) r = later e (refuses_behind p r)

pub passes_both : {rows more : List PlanCause} → Passes rows → Passes more → Passes (rows ++ more)
passes_both none q = q
passes_both (past e p) q = past e (passes_both p q)

pub passed_apart : (rows : List PlanCause) {more : List PlanCause} → Passes (rows ++ more) → Passes rows × Passes more
passed_apart [] p = (none, p)
passed_apart (r ∷ rows) (past e p) = let q = passed_apart rows p in (past e q.0, q.1)
