-- Single calls in turn. "Each call gets the sheet as the last one left it, refused or not" (document 01, "The tally").
-- The Rust has no batch calls; ours are single calls in turn, after what is judged for the whole batch.
use Rattle.std.specs.Prelude.{ℕ, List, [], ◌∷◌}
use Rattle.error.specs.Outcome.{outcome_number}
use Rattle.observer.specs.Observer.{Observer}
use Rattle.observer.specs.Judge.{Step}

-- What calls in turn give: the number of each, and the observer as the last one leaves it.
pub record Steps : Type 0 where
  pub numbers : List ℕ
  pub observer : Observer

-- One call with each of these, in turn.
abbrev pub in_turn : {A : Type 0} → (Observer → A → Step) → Observer → List A → Steps
in_turn call o [] = record { numbers = []; observer = o }
in_turn call o (x ∷ xs) = record {
  numbers = outcome_number (call o x).outcome ∷ (in_turn call (call o x).observer xs).numbers;
  observer = (in_turn call (call o x).observer xs).observer;
}
