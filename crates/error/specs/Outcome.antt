-- The outcome of a call, and the rule by which document 01 orders its refusals.
use Rattle.std.specs.Prelude.{ℕ, List, [], ◌∷◌, Bool, true, false}

-- A call refuses by a number and nothing else, or gives what it was asked for.
pub data Outcome (A : Type 0) : Type 0 where
  refused : ℕ → Outcome A
  gives : A → Outcome A

-- An outcome as one number: that of its refusal, or 0 where nothing was refused.
abbrev pub outcome_number : {A : Type 0} → Outcome A → ℕ
outcome_number (refused n) = n
outcome_number (gives x) = 0

-- A cause of refusal: its test, and its number.
pub data Cause : Type 0 where
  ◌⇒◌ : Bool → ℕ → Cause

infix 20 ◌⇒◌
-- Demand 1: a call "refuses by the first cause in document 01's order". The rows stand in that order; where no test
-- holds, the call goes on.
unfoldable pub first_cause : {A : Type 0} → List Cause → Outcome A → Outcome A
first_cause [] onward = onward
first_cause ((test ⇒ number) ∷ rows) onward = elim test [ true ↦ refused number | false ↦ first_cause rows onward ]
