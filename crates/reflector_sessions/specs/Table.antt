-- The session table: document 01, leaf 9, "a lent slice of session records with a used count and a maximum".
use Rattle.std.specs.Prelude.{ℕ, suc, ◌≡◌, ◌+◌, ◌-◌, List, [], ◌∷◌, true, false, Option, Some, None, eqb, length}
use Rattle.std.specs.Prelude.{take, set, get_or}
use Rattle.error.specs.Outcome.{Outcome, refused, gives}
use Rattle.reflector_sessions.specs.Judge.{table_outcome}
use Rattle.reflector_sessions.specs.declared.FoundSession.{FoundSession}
use Rattle.reflector_sessions.specs.declared.ReflectorSession.{ReflectorSession}
use Rattle.reflector_sessions.specs.declared.SessionTable.{SessionTable}
use Rattle.reflector_sessions.specs.declared.Sessions.{Sessions}
use Rattle.reflector_sessions.specs.Session.{no_session}

pub record Table : Type 0 where
  pub sessions : List ReflectorSession
  pub used : ℕ
  pub maximum : ℕ

abbrev pub table_of : List ReflectorSession → ℕ → ℕ → Table
table_of sessions used maximum = record { sessions = sessions; used = used; maximum = maximum }

-- The table that is lent to be read, and one that is lent to be changed.
abbrev pub table_read : Sessions → Table
table_read s = table_of s.rows.now s.used s.max_sessions

abbrev pub table_lent : SessionTable → Table
table_lent t = table_of t.rows.now t.used t.max_sessions

abbrev pub judged_table : Table → Outcome ℕ
judged_table t = table_outcome (length t.sessions) t.used t.maximum

-- A call leaves the table on the rows that it was lent. Its callers need this to learn what became of their slice.
abbrev pub SameRows : SessionTable → SessionTable → Type 0
SameRows before after = after.rows.ghost_name ≡ before.rows.ghost_name

-- "only used rows count"
abbrev pub used_rows : Table → List ReflectorSession
used_rows t = take t.used t.sessions

-- "a TEID means its first row": the row, or none.
abbrev pub find : ℕ → List ReflectorSession → Option ReflectorSession
find teid [] = None
find teid (session ∷ rows) = elim (eqb session.local_teid teid) [ true ↦ Some session | false ↦ find teid rows ]

-- The place of a TEID's first row: how many rows stand before it. If there is none, the number of rows.
abbrev pub place_of : ℕ → List ReflectorSession → ℕ
place_of teid [] = 0
place_of teid (session ∷ rows) = elim (eqb session.local_teid teid) [ true ↦ 0 | false ↦ suc (place_of teid rows) ]

-- What a search among these rows tells of a TEID: the place and the session of its first row, or nothing.
abbrev pub at_place : ℕ → Option ReflectorSession → Option FoundSession
at_place place None = None
at_place place (Some session) = Some (record { place = place; session = session })

abbrev pub found_in : List ReflectorSession → ℕ → Option FoundSession
found_in rows teid = at_place (place_of teid rows) (find teid rows)

-- The rows that a search goes through: the used ones, and none of a table that is refused.
unfoldable pub searched_count : ℕ → ℕ → ℕ → ℕ
searched_count length used maximum = elim (table_outcome length used maximum) [ refused n ↦ 0 | gives rows ↦ rows ]

abbrev pub searched_rows : Table → List ReflectorSession
searched_rows t = take (searched_count (length t.sessions) t.used t.maximum) t.sessions

-- "then appended": the first row past the used ones.
abbrev pub appended : ReflectorSession → Table → Table
appended session t = record { sessions = set t.sessions t.used session; used = t.used + 1; maximum = t.maximum }

-- "moves the last used row into the hole; rows past the count keep their contents"
abbrev pub swap_removed : ℕ → Table → Table
swap_removed place t =
    record {
      sessions = set t.sessions place (get_or t.sessions (t.used - 1) no_session);
      used = t.used - 1;
      maximum = t.maximum;
    }
