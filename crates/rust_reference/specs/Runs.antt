-- Whole runs: lists of the observer's calls, each on what the last one left, by document 01's definitions and by the
-- Rust's.
use Rattle.std.specs.Prelude.{ℕ, ◌≤◌, List, [], ◌∷◌}
use Rattle.error.specs.Outcome.{Outcome, refused, gives}
use Rattle.evidence.specs.declared.PacketContinuityBudget.{PacketContinuityBudget}
use Rattle.evidence.specs.declared.PacketContinuityReport.{PacketContinuityReport}
use Rattle.observer.specs.Observer.{Observer}
use Rattle.observer.specs.Sending.{record_sent}
use Rattle.report.specs.Report.{reporting}
use Rattle.return_calls.specs.Returns.{record_received_tpdu, record_return_message}
use Rattle.return_calls.specs.Kinds.{Kind}
use Rattle.rust_reference.specs.Number.{outcome_of}
use Rattle.rust_reference.specs.Compared.{Compared, ComparedReturn}
use Rattle.rust_reference.specs.Values.{u64_max}
use Rattle.rust_reference.specs.Answers.{report_of}
use Rattle.rust_reference.specs.Traffic as traffic

-- A call, with what it is handed: a sequence and its time; a time and a T-PDU; a time, a message type and a payload; a
-- window and a budget.
pub data Call : Type 0 where
  sending : ℕ → ℕ → Call
  receiving : ℕ → List ℕ → Call
  returning : ℕ → ℕ → List ℕ → Call
  reporting_on : ℕ → ℕ → PacketContinuityBudget → Call

-- What it is handed is compared, and has the code's types as far as that matters: times are u64s.
abbrev pub Typed : Call → Type 0
Typed (sending sequence time) = Unit {0}
Typed (receiving time tpdu) = (time ≤ u64_max) × Compared tpdu
Typed (returning time message_type payload) = (time ≤ u64_max) × ComparedReturn message_type payload
Typed (reporting_on window_start window_end budget) = Unit {0}

-- What an accepted call gives: nothing more (`done`), what the message was, or a report.
pub data Answer : Type 0 where
  done : Answer
  message : Kind → Answer
  reported : PacketContinuityReport → Answer

abbrev pub answering : {A : Type 0} → (A → Answer) → Outcome A → Outcome Answer
answering answer (refused n) = refused n
answering answer (gives x) = gives (answer x)

-- The answer to a call, by document 01's definitions.
abbrev pub answer_to : Observer → Call → Outcome Answer
answer_to o (sending sequence time) = answering (λ u. done) (record_sent o sequence time).outcome
answer_to o (receiving time tpdu) = answering (λ u. done) (record_received_tpdu o time tpdu).outcome
answer_to o (returning time message_type payload) =
    answering message (record_return_message o time message_type payload).outcome
answer_to o (reporting_on window_start window_end budget) =
    answering reported (reporting o window_start window_end budget)

abbrev pub after_call : Observer → Call → Observer
after_call o (sending sequence time) = (record_sent o sequence time).observer
after_call o (receiving time tpdu) = (record_received_tpdu o time tpdu).observer
after_call o (returning time message_type payload) = (record_return_message o time message_type payload).observer
after_call o (reporting_on window_start window_end budget) = o

abbrev pub answers_to : Observer → List Call → List (Outcome Answer)
answers_to o [] = []
answers_to o (call ∷ calls) = answer_to o call ∷ answers_to (after_call o call) calls

abbrev pub after : Observer → List Call → Observer
after o [] = o
after o (call ∷ calls) = after (after_call o call) calls

-- The answer to a call, by the Rust's definitions.
abbrev pub rust_answer_to : traffic.ContinuityObserver → Call → Outcome Answer
rust_answer_to o (sending sequence time) = gives done
rust_answer_to o (receiving time tpdu) =
    answering (λ u. done) (outcome_of (traffic.record_received_tpdu o time tpdu).result)
rust_answer_to o (returning time message_type payload) =
    answering message (outcome_of (traffic.record_return_gtpu_datagram o time message_type payload).result)
rust_answer_to o (reporting_on window_start window_end budget) =
    gives (reported (report_of (traffic.report o window_start window_end budget)))

abbrev pub rust_after_call : traffic.ContinuityObserver → Call → traffic.ContinuityObserver
rust_after_call o (sending sequence time) = traffic.record_sent o sequence time
rust_after_call o (receiving time tpdu) = (traffic.record_received_tpdu o time tpdu).observer
rust_after_call o (returning time message_type payload) =
    (traffic.record_return_gtpu_datagram o time message_type payload).observer
rust_after_call o (reporting_on window_start window_end budget) = o

abbrev pub rust_answers_to : traffic.ContinuityObserver → List Call → List (Outcome Answer)
rust_answers_to o [] = []
rust_answers_to o (call ∷ calls) = rust_answer_to o call ∷ rust_answers_to (rust_after_call o call) calls

abbrev pub rust_after : traffic.ContinuityObserver → List Call → traffic.ContinuityObserver
rust_after o [] = o
rust_after o (call ∷ calls) = rust_after (rust_after_call o call) calls
