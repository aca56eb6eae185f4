-- Removal (the Rust's `remove_session`): document 01, leaf 9: "Removal, after 30 and 31, gives the record or none and
-- moves the last used row into the hole; rows past the count keep their contents."
use Rattle.std.specs.Prelude.{ℕ, ◌≡◌, length, Option, Some, None, Result}
use Rattle.error.specs.Answer.{answered}
use Rattle.error.specs.Outcome.{Outcome, refused, gives, first_cause}
use Rattle.error.specs.declared.Refusal.{Refusal}
use Rattle.reflector_sessions.specs.Judge.{table_causes}
use Rattle.reflector_sessions.specs.declared.ReflectorSession.{ReflectorSession}
use Rattle.reflector_sessions.specs.Table.{Table, used_rows, find, place_of, swap_removed}

unfoldable pub remove_outcome : ℕ → ℕ → ℕ → Option ReflectorSession → Outcome (Option ReflectorSession)
remove_outcome rows used maximum existing = first_cause (table_causes rows used maximum) (gives existing)

-- A removal: its outcome, and the table that it leaves.
pub record Removing : Type 0 where
  pub outcome : Outcome (Option ReflectorSession)
  pub table : Table

abbrev pub removed_table : Outcome (Option ReflectorSession) → ℕ → Table → Table
removed_table (refused n) place t = t
removed_table (gives None) place t = t
removed_table (gives (Some session)) place t = swap_removed place t

unfoldable pub remove_session : Table → ℕ → Removing
remove_session t teid =
    let outcome = remove_outcome (length t.sessions) t.used t.maximum (find teid (used_rows t)) in
    record { outcome = outcome; table = removed_table outcome (place_of teid (used_rows t)) t }

-- A call's answer and the table as it leaves it are those of a removal.
pub record Removes (result : Result (Option ReflectorSession) Refusal) (after : Table) (to : Removing) : Type 0 where
  pub outcome : answered result ≡ to.outcome
  pub table : after ≡ to.table
