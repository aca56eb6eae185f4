-- A message (the Rust's `handle_datagram` after its decode): document 01, leaf 9. What is answered is defined in
-- reflector_answer; here the session is the one that the message's TEID means in the table.
use Rattle.std.specs.Prelude.{ℕ, List, Option, Some, None, length}
use Rattle.reflector_answer.specs.Answer.{Answer}
use Rattle.reflector_answer.specs.Handle.{handle_found}
use Rattle.gtpu.specs.declared.GtpuMessage.{GtpuMessage}
use Rattle.reflector_answer.specs.declared.MultiSessionReflectorConfig.{MultiSessionReflectorConfig}
use Rattle.reflector_sessions.specs.declared.FoundSession.{FoundSession}
use Rattle.reflector_sessions.specs.declared.ReflectorSession.{ReflectorSession}
use Rattle.reflector_answer.specs.declared.ReflectorState.{ReflectorState}
use Rattle.reflector_sessions.specs.declared.SocketAddr.{SocketAddr}
use Rattle.reflector_sessions.specs.Table.{table_of, used_rows, find}

-- The session of the row that a search found.
abbrev pub session_found : Option FoundSession → Option ReflectorSession
session_found None = None
session_found (Some found) = Some found.session

unfoldable pub handle_datagram : List ReflectorSession → ℕ → MultiSessionReflectorConfig → ReflectorState → SocketAddr
    → GtpuMessage → List ℕ → List ℕ → Answer
handle_datagram sessions used config state source message payload buffer =
    let session = find message.teid (used_rows (table_of sessions used config.max_sessions)) in
    handle_found (length sessions) used config state session source message payload buffer
