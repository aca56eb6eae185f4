-- Registering (the Rust's `register_session`): document 01, leaf 9, with the card's numbers 30 to 34.
use Rattle.std.specs.Prelude.{ℕ, ◌≡◌, [], ◌∷◌, Bool, true, false, not, ◌||◌, eqb, length}
use Rattle.std.specs.Prelude.{Option, Some, None, Result, Ok, Err}
use Rattle.error.specs.Answer.{number_of}
use Rattle.error.specs.Number.{invalid_reflector_session, reflector_session_conflict, reflector_session_capacity_exceeded}
use Rattle.error.specs.Outcome.{Outcome, refused, gives, ◌⇒◌, first_cause}
use Rattle.error.specs.declared.Refusal.{Refusal}
use Rattle.reflector_sessions.specs.Judge.{table_causes}
use Rattle.reflector_sessions.specs.declared.ReflectorSession.{ReflectorSession}
use Rattle.reflector_sessions.specs.Session.{same_session}
use Rattle.reflector_sessions.specs.Table.{Table, used_rows, find, appended}
use Rattle.reflector_sessions.specs.declared.Registration.{Registration}
use Rattle.reflector_sessions.specs.declared.Registration.TheVariants.{Added, Unchanged}

-- "TEID or port 0"
unfoldable pub invalid_session : ReflectorSession → Bool
invalid_session s = eqb s.local_teid 0 || (eqb s.peer_teid 0 || eqb s.peer_addr.port 0)

-- A session in a table that is not refused, where its TEID means this record or none: 32, "then same record (nothing
-- changes) or 33, then 34, then appended". What is given is whether it is appended, which the Rust answers.
unfoldable pub session_outcome : ℕ → ℕ → Option ReflectorSession → ReflectorSession → Outcome Bool
session_outcome used maximum existing session =
    first_cause ((invalid_session session ⇒ invalid_reflector_session) ∷ [])
    (elim existing [
      -- "other record with this local TEID"
      | Some other ↦ first_cause ((not (same_session other session) ⇒ reflector_session_conflict) ∷ []) (gives false)
      -- "used equals maximum"
      | None ↦ first_cause ((eqb used maximum ⇒ reflector_session_capacity_exceeded) ∷ []) (gives true)
    ])

-- "Registering: 30, 31, 32, .."
unfoldable pub register_outcome : ℕ → ℕ → ℕ → Option ReflectorSession → ReflectorSession → Outcome Bool
register_outcome rows used maximum existing session =
    first_cause (table_causes rows used maximum) (session_outcome used maximum existing session)

-- Registering: its outcome, and the table that it leaves.
pub record Registering : Type 0 where
  pub outcome : Outcome Bool
  pub table : Table

abbrev pub registered_table : Outcome Bool → ReflectorSession → Table → Table
registered_table (refused n) session t = t
registered_table (gives false) session t = t
registered_table (gives true) session t = appended session t

unfoldable pub register_session : Table → ReflectorSession → Registering
register_session t session =
    let found = find session.local_teid (used_rows t) in
    let outcome = register_outcome (length t.sessions) t.used t.maximum found session in
    record { outcome = outcome; table = registered_table outcome session t }

-- What each case of the answer means: whether the session is appended, or a refusal.
abbrev pub registration_means : Result Registration Refusal → Outcome Bool
registration_means (Ok Added) = gives true
registration_means (Ok Unchanged) = gives false
registration_means (Err refusal) = refused (number_of refusal)

-- A call's answer and the table as it leaves it are those of a registering.
pub record Registers (result : Result Registration Refusal) (after : Table) (to : Registering) : Type 0 where
  pub outcome : registration_means result ≡ to.outcome
  pub table : after ≡ to.table
