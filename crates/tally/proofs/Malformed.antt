-- On a sheet that 21 refuses, every call refuses by 21.
use Prim.Native.Nat.{ℕ}
use mathlib.Core.Path.{◌≡◌, sym, ap}
use mathlib.Core.List.{List}
use mathlib.Core.Bool.{false}
use Rattle.error.specs.Number.{malformed_observer}
use Rattle.error.specs.Outcome.{Outcome, refused, gives}
use Rattle.observer.specs.Judge.{well_formed, Step, step, after_reading}
use Rattle.observer.specs.Observer.{Observer}
use Rattle.observer.specs.Returning.{record_return, record_error_indication}
use Rattle.observer.proofs.Calls.{judged_malformed, sent_malformed, return_malformed, indication_malformed, refusing_malformed}
use Rattle.sent_plan.specs.SendingPlan.{record_sent_plan}
use Rattle.gtpu.specs.Element.{elements_of}
use Rattle.return_calls.specs.Kinds.{message_kind}
use Rattle.return_calls.specs.Returns.{sequence_read, record_received_tpdu, MessageStep, as_message, unchanged, record_kind, record_return_message}
use Rattle.return_calls.specs.Kinds.{Kind, MeasurementTpdu, ErrorIndication, EchoResponse, Ignored}
use Rattle.received_tpdus.proofs.Received.{received_malformed}
use Rattle.report.specs.Report.{reporting}
use Rattle.tally.specs.Malformed.{MalformedFirst}

module _ (o : Observer) (bad : well_formed o ≡ false) where
  abbrev refusal : Step
  refusal = record { outcome = refused malformed_observer; observer = o }

  -- whatever was read, if the call refuses
  read_first : {A : Type 0} (read : Outcome A) (call : A → Step) → ((x : A) → refusal ≡ call x) → after_reading o read call ≡ refusal
  read_first (refused n) call each = sym (refusing_malformed o n bad)
  read_first (gives x) call each = sym (each x)

  received : (time : ℕ) (tpdu : List ℕ) → record_received_tpdu o time tpdu ≡ refusal
  unfolding record_received_tpdu
  received time tpdu = read_first (sequence_read tpdu) (record_return o time) (λ q. return_malformed o time q bad)

  elements : (payload : List ℕ) → after_reading o (elements_of payload) (λ accepted. record_error_indication o) ≡ refusal
  elements payload = read_first (elements_of payload) (λ accepted. record_error_indication o) (λ accepted. indication_malformed o bad)

  abbrev message_refusal : MessageStep
  message_refusal = record { outcome = refused malformed_observer; observer = o }

  noted : (outcome : Outcome Kind) → unchanged o outcome ≡ message_refusal
  noted outcome = ap (λ (x : Outcome Kind). record { outcome = x; observer = o }) (sym (judged_malformed o outcome bad))

  by_kind : (time : ℕ) (payload : List ℕ) (kind : Kind) → record_kind o time payload kind ≡ message_refusal
  by_kind time payload MeasurementTpdu = ap (as_message MeasurementTpdu) (received time payload)
  by_kind time payload ErrorIndication = ap (as_message ErrorIndication) (elements payload)
  by_kind time payload EchoResponse = noted (gives EchoResponse)
  by_kind time payload (Ignored message_type) = noted (gives (Ignored message_type))

  message : (time message_type : ℕ) (payload : List ℕ) → record_return_message o time message_type payload ≡ message_refusal
  unfolding record_return_message
  message time message_type payload = by (message_kind message_type)
    where
      by : (k : Outcome Kind)
          → ◌≡◌ {A = MessageStep} (elim k [ refused n ↦ unchanged o (refused n) | gives kind ↦ record_kind o time payload kind ]) message_refusal
      by (refused n) = noted (refused n)
      by (gives kind) = by_kind time payload kind

pub malformed_first : MalformedFirst
unfolding record_sent_plan reporting
malformed_first o bad = record {
  sending = λ q t. sym (sent_malformed o q t bad);
  sending_a_plan = λ plan next. ap (step o) (sym (judged_malformed o _ bad));
  receiving = received o bad;
  receiving_a_list = λ times lengths bytes returned numbers. sym (received_malformed o times lengths bytes returned numbers bad);
  returning = message o bad;
  report = λ start end budget. sym (judged_malformed o _ bad);
}
