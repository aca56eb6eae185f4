-- The search's result may stand for the session that a message's TEID means: where the table is refused, no session is looked at; else the search found what the TEID means.
use Rattle.std.proofs.Common.{◌≡◌, ℕ, List, Option, Some, None, length, refl, sym, ap, ◌∙◌}
use Rattle.error.specs.Outcome.{refused, gives}
use Rattle.error.proofs.Causes.{refuses}
use Rattle.reflector_answer.specs.Handle.{handle_found}
use Rattle.gtpu.specs.declared.GtpuMessage.{GtpuMessage}
use Rattle.reflector_answer.specs.declared.MultiSessionReflectorConfig.{MultiSessionReflectorConfig}
use Rattle.reflector_answer.specs.declared.ReflectorState.{ReflectorState}
use Rattle.reflector_answer.proofs.Answers.{handling_refused}
use Rattle.reflector_sessions.specs.Judge.{table_outcome}
use Rattle.reflector_sessions.specs.Table.{table_of, find, place_of, at_place, found_in, searched_rows}
use Rattle.reflector_sessions.specs.declared.ReflectorSession.{ReflectorSession}
use Rattle.reflector_sessions.specs.declared.SocketAddr.{SocketAddr}
use Rattle.reflector_sessions.proofs.Judging.{Judged, unsound, sound, judge}
use Rattle.reflector_sessions.proofs.Search.{searched_used}
use Rattle.reflector.specs.Handle.{session_found, handle_datagram}

-- of what a search tells the session is left
pub session_is : (teid : ℕ) (rows : List ReflectorSession) → session_found (found_in rows teid) ≡ find teid rows
session_is teid rows = by (find teid rows)
  where
    by : (o : Option ReflectorSession) → session_found (at_place (place_of teid rows) o) ≡ o
    by None = refl
    by (Some session) = refl

module _ (config : MultiSessionReflectorConfig) (state : ReflectorState) (source : SocketAddr) (message : GtpuMessage) (payload buffer : List ℕ) where
  -- a refused table's answer is the same with any session
  refused_alike : (rows used : ℕ) {n : ℕ} → refused n ≡ table_outcome rows used config.max_sessions → (one other : Option ReflectorSession)
      → handle_found rows used config state one source message payload buffer ≡ handle_found rows used config state other source message payload buffer
  refused_alike rows used e one other = sym (handling_refused rows used config state one source message payload buffer e) ∙ handling_refused rows used config state other source message payload buffer e

  pub handled_is : (rows : List ReflectorSession) (used : ℕ)
      → handle_found (length rows) used config state (find message.teid (searched_rows (table_of rows used config.max_sessions))) source message payload buffer ≡ handle_datagram rows used config state source message payload buffer
  unfolding handle_datagram table_outcome
  handled_is rows used = go (judge (length rows) used config.max_sessions)
    where
      go : Judged (length rows) used config.max_sessions
          → handle_found (length rows) used config state (find message.teid (searched_rows (table_of rows used config.max_sessions))) source message payload buffer ≡ handle_datagram rows used config state source message payload buffer
      go (unsound n h) = refused_alike (length rows) used (refuses (gives used) h) _ _
      go (sound s) =
          ap (λ (xs : List ReflectorSession). handle_found (length rows) used config state (find message.teid xs) source message payload buffer)
          (searched_used (table_of rows used config.max_sessions) s)
