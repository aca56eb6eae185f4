-- Lists of the reflector's calls, each on what the last one left, by document 01's definitions and by the Rust's.
use Rattle.std.specs.Prelude.{ℕ, ◌≤◌, Bool, List, [], ◌∷◌, length}
use Rattle.error.specs.Outcome.{Outcome, gives}
use Rattle.reflector_answer.specs.Handle.{placed, reflector_bytes}
use Rattle.gtpu.specs.declared.GtpuMessage.{GtpuMessage}
use Rattle.reflector_answer.specs.declared.ReflectorPolicy.{ReflectorPolicy}
use Rattle.reflector_sessions.specs.Register.{register_session}
use Rattle.reflector_sessions.specs.Remove.{remove_session}
use Rattle.reflector_sessions.specs.declared.ReflectorSession.{ReflectorSession}
use Rattle.reflector_sessions.specs.declared.SocketAddr.{SocketAddr}
use Rattle.rust_reference.specs.Map.{Option}
use Rattle.rust_reference.specs.Number.{outcome_of}
use Rattle.rust_reference.specs.Compared.{ComparedMessage, told}
use Rattle.rust_reference.specs.Reflector as rust
use Rattle.rust_reference.specs.Sessions.{Reflector, table_in, with_table, with_state, handling, rust_address}
use Rattle.rust_reference.specs.Sessions.{rust_session, rust_message, rust_removed, rust_action, outcome_to, in_output}

-- A call, with what it is handed: a session; a TEID; a sender, a message, its payload and an output.
pub data Call : Type 0 where
  register : ReflectorSession → Call
  remove : ℕ → Call
  handle : SocketAddr → GtpuMessage → List ℕ → List ℕ → Call

-- What it is handed is compared.
abbrev pub Typed : ReflectorPolicy → Call → Type 0
Typed policy (register session) = Unit {0}
Typed policy (remove teid) = Unit {0}
Typed policy (handle source message payload buffer) = ComparedMessage policy message payload

-- The output that it is lent, if any, has the bytes that document 01 asks for: 15 is not due.
abbrev pub OutputFits : Call → Type 0
OutputFits (register session) = Unit {0}
OutputFits (remove teid) = Unit {0}
OutputFits (handle source message payload buffer) = reflector_bytes ≤ length buffer

-- What a call gives, in the Rust's terms.
pub data Given : Type 0 where
  registered : Bool → Given
  removed : Option rust.ReflectorSession → Given
  acted : rust.ReflectorAction → Given

-- A call's outcome, and the output, if it was lent one, as it leaves it.
pub record Answer : Type 0 where
  pub outcome : Outcome Given
  pub output : List ℕ

-- The answer to a call, by document 01's definitions.
abbrev pub answer_to : Reflector → Call → Answer
answer_to r (register session) = record {
  outcome = outcome_to registered (register_session (table_in r) session).outcome;
  output = [];
}
answer_to r (remove teid) = record {
  outcome = outcome_to removed (outcome_to rust_removed (remove_session (table_in r) teid).outcome);
  output = [];
}
answer_to r (handle source message payload buffer) = record {
  outcome = outcome_to acted (outcome_to (rust_action payload) (handling r source message payload buffer).outcome);
  output = placed (handling r source message payload buffer).outcome buffer;
}

abbrev pub after_call : Reflector → Call → Reflector
after_call r (register session) = with_table (register_session (table_in r) session).table r
after_call r (remove teid) = with_table (remove_session (table_in r) teid).table r
after_call r (handle source message payload buffer) = with_state (handling r source message payload buffer).state r

abbrev pub answers_to : Reflector → List Call → List Answer
answers_to r [] = []
answers_to r (call ∷ calls) = answer_to r call ∷ answers_to (after_call r call) calls

-- Our answer, in the numbers that are compared.
abbrev pub told_answer : Answer → Answer
told_answer answer = record { outcome = told answer.outcome; output = answer.output }

abbrev pub after : Reflector → List Call → Reflector
after r [] = r
after r (call ∷ calls) = after (after_call r call) calls

-- The answer to a call, by the Rust's definitions.
abbrev pub rust_answer_to : rust.GtpuReflector → Call → Answer
rust_answer_to r (register session) = record {
  outcome = outcome_to registered (outcome_of (rust.register_session r (rust_session session)).result);
  output = [];
}
rust_answer_to r (remove teid) = record { outcome = gives (removed (rust.remove_session r teid).result); output = [] }
rust_answer_to r (handle source message payload buffer) = record {
  outcome = outcome_to acted
      (outcome_of (rust.handle_datagram r (rust_address source) (rust_message message payload)).result);
  output = in_output (rust.handle_datagram r (rust_address source) (rust_message message payload)).result buffer;
}

abbrev pub rust_after_call : rust.GtpuReflector → Call → rust.GtpuReflector
rust_after_call r (register session) = (rust.register_session r (rust_session session)).reflector
rust_after_call r (remove teid) = (rust.remove_session r teid).reflector
rust_after_call r (handle source message payload buffer) =
    (rust.handle_datagram r (rust_address source) (rust_message message payload)).reflector

abbrev pub rust_answers_to : rust.GtpuReflector → List Call → List Answer
rust_answers_to r [] = []
rust_answers_to r (call ∷ calls) = rust_answer_to r call ∷ rust_answers_to (rust_after_call r call) calls

abbrev pub rust_after : rust.GtpuReflector → List Call → rust.GtpuReflector
rust_after r [] = r
rust_after r (call ∷ calls) = rust_after (rust_after_call r call) calls
