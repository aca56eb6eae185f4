-- What came back, as it was read before 21 is judged: for the contracts of the private functions. That the calls are
-- those of specs/Returns.antt is proved.
use Rattle.std.specs.Prelude.{ℕ, ◌≡◌, List, Result, Ok, Err}
use Rattle.error.specs.Outcome.{Outcome, refused, gives}
use Rattle.error.specs.declared.Refusal.{Refusal}
use Rattle.gtpu.specs.Indication.{and_then, indication_of}
use Rattle.gtpu.specs.declared.RefusedTunnel.{RefusedTunnel}
use Rattle.observer.specs.Observer.{Observer}
use Rattle.observer.specs.Returning.{record_return, record_error_indication}
use Rattle.return_calls.specs.Kinds.{Kind, MeasurementTpdu, ErrorIndication, EchoResponse, Ignored, message_kind}
use Rattle.return_calls.specs.Returns.{sequence_read, MessageStep, as_message, unchanged}
use Rattle.return_calls.specs.declared.GtpuReturnDatagramOutcome.{GtpuReturnDatagramOutcome}
use Rattle.return_calls.specs.declared.GtpuReturnDatagramOutcome.TheVariants as message
use Rattle.return_calls.specs.declared.Returned.{Returned}
use Rattle.return_calls.specs.declared.Returned.TheVariants as returned

abbrev pub tpdu_returned : Outcome ℕ → Outcome Returned
tpdu_returned read = and_then read (λ q. gives (returned.Sequence q))

abbrev pub elements_returned : Outcome RefusedTunnel → Outcome Returned
elements_returned read = and_then read (λ tunnel. gives (returned.ErrorIndication tunnel))

-- A message of each kind, with this payload.
abbrev pub kind_returned : List ℕ → Kind → Outcome Returned
kind_returned payload MeasurementTpdu = tpdu_returned (sequence_read payload)
kind_returned payload ErrorIndication = elements_returned (indication_of payload)
kind_returned payload EchoResponse = gives returned.EchoResponse
kind_returned payload (Ignored message_type) = gives (returned.Ignored message_type)

unfoldable pub message_returned : ℕ → List ℕ → Outcome Returned
message_returned message_type payload = and_then (message_kind message_type) (kind_returned payload)

-- It is recorded at this time, after 21.
abbrev pub record_returned : Observer → ℕ → Outcome Returned → MessageStep
record_returned o time (refused n) = unchanged o (refused n)
record_returned o time (gives (returned.Sequence q)) = as_message MeasurementTpdu (record_return o time q)
record_returned o time (gives (returned.ErrorIndication tunnel)) =
    as_message ErrorIndication (record_error_indication o)
record_returned o time (gives returned.EchoResponse) = unchanged o (gives EchoResponse)
record_returned o time (gives (returned.Ignored message_type)) = unchanged o (gives (Ignored message_type))

-- What is then answered is what was read.
abbrev pub answer_to : Returned → GtpuReturnDatagramOutcome
answer_to (returned.Sequence q) = message.MeasurementTpdu
answer_to (returned.ErrorIndication tunnel) = message.ErrorIndication tunnel
answer_to returned.EchoResponse = message.EchoResponse
answer_to (returned.Ignored message_type) = message.Ignored message_type

abbrev pub AsRead : Result GtpuReturnDatagramOutcome Refusal → Outcome Returned → Type 0
AsRead (Ok outcome) read = and_then read (λ x. gives (answer_to x)) ≡ gives outcome
AsRead (Err r) read = Unit {0}
