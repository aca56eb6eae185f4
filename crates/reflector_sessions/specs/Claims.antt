-- What is claimed of the session table. Proved in proofs/Claims.antt.
use Rattle.std.specs.Prelude.{ℕ, ◌<◌, ◌≡◌, true, false, List, length, get_or, Some, None}
use Rattle.error.specs.Outcome.{gives}
use Rattle.reflector_sessions.specs.Session.{no_session, same_session}
use Rattle.reflector_sessions.specs.Table.{Table, used_rows, find, place_of}
use Rattle.reflector_sessions.specs.Register.{register_session}
use Rattle.reflector_sessions.specs.Remove.{remove_session}
use Rattle.reflector_sessions.specs.declared.ReflectorSession.{ReflectorSession}

-- The local TEID of row i.
abbrev pub teid_at : ℕ → List ReflectorSession → ℕ
teid_at i rows = (get_or rows i no_session).local_teid

-- No two rows have one TEID.
abbrev pub Unique : List ReflectorSession → Type 0
Unique rows = (i j : ℕ) → i < j → j < length rows → teid_at i rows ≡ teid_at j rows → ⊥

-- A session that was appended is the one that its TEID means,
abbrev pub AddedIsFound : Type 0
AddedIsFound = (t : Table) (session : ReflectorSession) → (register_session t session).outcome ≡ gives true
    → find session.local_teid (used_rows (register_session t session).table) ≡ Some session

-- and where nothing was appended, the TEID means the same record.
abbrev pub UnchangedIsFound : Type 0
UnchangedIsFound = (t : Table) (session : ReflectorSession) → (register_session t session).outcome ≡ gives false
    → (existing : ReflectorSession)
    × (find session.local_teid (used_rows (register_session t session).table) ≡ Some existing)
    × (same_session existing session ≡ true)

-- A session that was removed is not found again, where no other used row had its TEID.
abbrev pub RemovedIsNotFound : Type 0
RemovedIsNotFound = (t : Table) (teid : ℕ) (session : ReflectorSession) → Unique (used_rows t)
    → (remove_session t teid).outcome ≡ gives (Some session)
    → find teid (used_rows (remove_session t teid).table) ≡ None

-- No call leaves two used rows of one TEID where there were none before.
abbrev pub StaysUnique : Type 0
StaysUnique = (t : Table) → Unique (used_rows t)
    → ((session : ReflectorSession) → Unique (used_rows (register_session t session).table))
    × ((teid : ℕ) → Unique (used_rows (remove_session t teid).table))

-- "then appended" and "moves the last used row into the hole; rows past the count keep their contents": registering
-- writes no row but the first past the used ones, and removal none but the hole. Every other row, used or not, is as it
-- was, on refusals too. No law above says this of rows past the count, which a later call may come to use.
abbrev pub OtherRowsKept : Type 0
OtherRowsKept = (t : Table)
    → ((session : ReflectorSession) (i : ℕ) → (i ≡ t.used → ⊥)
    → get_or (register_session t session).table.sessions i no_session ≡ get_or t.sessions i no_session)
    × ((teid i : ℕ) → (i ≡ place_of teid (used_rows t) → ⊥)
    → get_or (remove_session t teid).table.sessions i no_session ≡ get_or t.sessions i no_session)
