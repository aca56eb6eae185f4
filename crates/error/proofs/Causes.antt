-- The first cause that holds: which row it is, or that none holds; forwards from the tests, and backwards from the outcome.
use Prim.Native.Nat.{ℕ}
use mathlib.Core.Path.{◌≡◌, refl, ◌∙◌}
use mathlib.Core.List.{List, [], ◌∷◌, ◌++◌}
use mathlib.Core.Bool.{Bool, true, false, not, ◌&&◌}
use native.Mathlib.Omega.{arith}
use lib.Dec.{eqb}
use borrow.Author.Tests.{not-true, eqb-false}
use Rattle.error.specs.Outcome.{Outcome, refused, gives, Cause, ◌⇒◌, first_cause}
use Rattle.error.proofs.Tests.{both}

-- the row with this number is the first that holds
pub data Refuses : List Cause → ℕ → Type 0 where
  here : {t : Bool} {n : ℕ} {rows : List Cause} → t ≡ true → Refuses ((t ⇒ n) ∷ rows) n
  later : {t : Bool} {m n : ℕ} {rows : List Cause} → t ≡ false → Refuses rows n → Refuses ((t ⇒ m) ∷ rows) n

-- no row holds
pub data Passes : List Cause → Type 0 where
  none : Passes []
  past : {t : Bool} {m : ℕ} {rows : List Cause} → t ≡ false → Passes rows → Passes ((t ⇒ m) ∷ rows)

pub refuses : {A : Type 0} {rows : List Cause} {n : ℕ} (o : Outcome A) → Refuses rows n → refused n ≡ first_cause rows o
unfolding first_cause
refuses o (here e) = rw (e, first_cause)
refuses o (later e r) = rw (e, first_cause) (refuses o r)

pub passes : {A : Type 0} {rows : List Cause} (o : Outcome A) → Passes rows → o ≡ first_cause rows o
unfolding first_cause
passes o none = refl
passes o (past e r) = rw (e, first_cause) (passes o r)

-- a refusal gives nothing
pub refused_gives : {A : Type 0} {n : ℕ} {x : A} → refused n ≡ gives x → ⊥
refused_gives e = let z : ◌≡◌ {A = ℕ} 0 1 = cc in omega arith

-- what was given passed every row
pub passed : {A : Type 0} (rows : List Cause) (o : Outcome A) (x : A) → first_cause rows o ≡ gives x → Passes rows × (o ≡ gives x)
unfolding first_cause
passed [] o x e = (none, e)
passed ((true ⇒ n) ∷ rows) o x e = absurd (refused_gives e)
passed ((false ⇒ n) ∷ rows) o x e = let p = passed rows o x e in (past refl p.0, p.1)

-- rows of other numbers: none refuses by this one
abbrev pub without : ℕ → List Cause → Bool
without m [] = true
without m ((test ⇒ n) ∷ rows) = not (eqb n m) && without m rows

pub not_by : {A : Type 0} (m : ℕ) (rows : List Cause) (o : Outcome A) → without m rows ≡ true → (o ≡ refused m → ⊥) → first_cause rows o ≡ refused m → ⊥
unfolding first_cause
not_by m [] o w h e = h e
not_by m ((true ⇒ n) ∷ rows) o w h e =
    let same : n ≡ m = cc in
    eqb-false n m (not-true (eqb n m) (both (not (eqb n m)) (without m rows) w).0) same
not_by m ((false ⇒ n) ∷ rows) o w h e = not_by m rows o (both (not (eqb n m)) (without m rows) w).1 h e

-- ---- rows behind other rows

pub refuses_front : {rows : List Cause} {n : ℕ} (more : List Cause) → Refuses rows n → Refuses (rows ++ more) n
refuses_front more (here e) = here e
refuses_front more (later e r) = later e (refuses_front more r)

pub refuses_behind : {rows more : List Cause} {n : ℕ} → Passes rows → Refuses more n → Refuses (rows ++ more) n
refuses_behind none r = r
refuses_behind (past e p) r = later e (refuses_behind p r)

pub passes_both : {rows more : List Cause} → Passes rows → Passes more → Passes (rows ++ more)
passes_both none q = q
passes_both (past e p) q = past e (passes_both p q)

-- ---- rows by their numbers, so that no law counts the rows before its own

-- the rows from the first with this number on; no row has the number 0, so from 0 on there are none
abbrev pub from : ℕ → List Cause → List Cause
from n [] = []
from n ((test ⇒ m) ∷ rows) = elim (eqb m n) [ true ↦ (test ⇒ m) ∷ rows | false ↦ from n rows ]

-- forwards: a call is what these rows decide, those before them having been passed
pub record Left {A : Type 0} (rows : List Cause) (onward whole : Outcome A) : Type 0 where
  pub is : first_cause rows onward ≡ whole

pub stops : {A : Type 0} {t : Bool} {n : ℕ} {rows : List Cause} {o x : Outcome A} → Left ((t ⇒ n) ∷ rows) o x → t ≡ true → refused n ≡ x
stops {o = o} left e = refuses o (here e) ∙ left.is

pub goes_on : {A : Type 0} {t : Bool} {n : ℕ} {rows : List Cause} {o x : Outcome A} → Left ((t ⇒ n) ∷ rows) o x → t ≡ false → Left rows o x
unfolding first_cause
goes_on left e = record { is = rw (e, first_cause) at left.is }

pub all_passed : {A : Type 0} {o x : Outcome A} → Left [] o x → o ≡ x
unfolding first_cause
all_passed left = left.is

-- backwards: rows that were passed, from one of them on; and its test
pub passes_from : {rows : List Cause} (n : ℕ) → Passes rows → Passes (from n rows)
passes_from n none = none
passes_from n (past {t = t} {m = m} {rows = rows} e p) = by (eqb m n) (passes_from n p)
  where
    by : (b : Bool) → Passes (from n rows) → Passes (elim b [ true ↦ (t ⇒ m) ∷ rows | false ↦ from n rows ])
    by true q = past e p
    by false q = q

pub first_false : {t : Bool} {n : ℕ} {rows : List Cause} → Passes ((t ⇒ n) ∷ rows) → t ≡ false
first_false (past e p) = e

-- backwards from a refusal: the rows before the first with its number were passed, and those from it on refuse by it
abbrev pub before : ℕ → List Cause → List Cause
before n [] = []
before n ((test ⇒ m) ∷ rows) = elim (eqb m n) [ true ↦ [] | false ↦ (test ⇒ m) ∷ before n rows ]

pub passed_before : {A : Type 0} (n : ℕ) (rows : List Cause) (o : Outcome A) → first_cause rows o ≡ refused n → Passes (before n rows) × (first_cause (from n rows) o ≡ refused n)
unfolding first_cause
passed_before n [] o e = (none, e)
passed_before n ((test ⇒ m) ∷ rows) o e = by (eqb m n) refl test e (passed_before n rows o)
  where
    by : (same : Bool) → eqb m n ≡ same → (t : Bool) → first_cause ((t ⇒ m) ∷ rows) o ≡ refused n
        → (first_cause rows o ≡ refused n → Passes (before n rows) × (first_cause (from n rows) o ≡ refused n))
        → Passes (elim same [ true ↦ [] | false ↦ (t ⇒ m) ∷ before n rows ]) × (first_cause (elim same [ true ↦ (t ⇒ m) ∷ rows | false ↦ from n rows ]) o ≡ refused n)
    by true same t e rest = (none, e)
    by false same true e rest = let is : m ≡ n = cc in absurd (eqb-false m n same is)
    by false same false e rest = let p = rest e in (past refl p.0, p.1)

-- rows that were all passed were passed up to any of them
pub passes_before : {rows : List Cause} (n : ℕ) → Passes rows → Passes (before n rows)
passes_before n none = none
passes_before n (past {t = t} {m = m} {rows = rows} e p) = by (eqb m n) (passes_before n p)
  where
    by : (b : Bool) → Passes (before n rows) → Passes (elim b [ true ↦ [] | false ↦ (t ⇒ m) ∷ before n rows ])
    by true q = none
    by false q = past e q
