-- What a call leaves in the buffer that it was lent, beside its answer: how many bytes it wrote, or why none.
use Rattle.std.specs.Prelude.{ℕ, List, ◌++◌, Result, true, false, ltb, length, drop}
use Rattle.error.specs.Answer.{answered}
use Rattle.error.specs.Number.{output_too_short}
use Rattle.error.specs.Outcome.{Outcome, refused, gives}
use Rattle.error.specs.declared.Refusal.{Refusal}

-- A writer's outcome, and the lent buffer as it leaves it.
pub record Writing : Type 0 where
  pub outcome : Outcome ℕ
  pub buffer : List ℕ

-- Writes bytes at the front of a buffer. "On success, output bytes past the answer keep their contents". A buffer that
-- is too short gives 15 and keeps all its contents.
unfoldable pub writing : List ℕ → List ℕ → Writing
writing bytes buffer =
    elim (ltb (length buffer) (length bytes)) [
      | true ↦ record { outcome = refused output_too_short; buffer = buffer }
      | false ↦ record { outcome = gives (length bytes); buffer = bytes ++ drop (length bytes) buffer }
    ]

-- Writing an outcome: where it refuses, so does the writer, and 15 comes last.
unfoldable pub writing_of : Outcome (List ℕ) → List ℕ → Writing
writing_of (refused n) buffer = record { outcome = refused n; buffer = buffer }
writing_of (gives bytes) buffer = writing bytes buffer

-- What a writer answered, and the buffer as it left it.
abbrev pub wrote : Result ℕ Refusal → List ℕ → Writing
wrote answer buffer = record { outcome = answered answer; buffer = buffer }
