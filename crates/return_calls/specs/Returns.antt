-- The observer's two return calls (document 01, leaf 6; the Rust's `record_received_tpdu` and
-- `record_return_gtpu_datagram`, the second after its header is parsed).
use Rattle.std.specs.Prelude.{ℕ, List}
use Rattle.error.specs.Outcome.{Outcome, refused, gives}
use Rattle.measurement_reading.specs.Read.{read_of}
use Rattle.gtpu.specs.Element.{elements_of}
use Rattle.observer.specs.Observer.{Observer}
use Rattle.observer.specs.Judge.{judged, Step, after_reading}
use Rattle.observer.specs.Returning.{record_return, record_error_indication}
use Rattle.return_calls.specs.Kinds.{Kind, MeasurementTpdu, ErrorIndication, EchoResponse, Ignored, message_kind}

-- What a T-PDU is to the observer: a sequence, or the reader's refusal. Its flow and send time are not used.
unfoldable pub sequence_read : List ℕ → Outcome ℕ
sequence_read tpdu = elim (read_of tpdu) [ refused n ↦ refused n | gives t ↦ gives t.measurement.sequence ]

-- A T-PDU returns at this time. "A return is judged 21, 1 to 14, 23, 24, then duplicate, then out of order"; 38
-- and 39 are numbers of the reader's too (document 02, jobs 1 and 3).
unfoldable pub record_received_tpdu : Observer → ℕ → List ℕ → Step
record_received_tpdu o time tpdu = after_reading o (sequence_read tpdu) (record_return o time)

-- An Error Indication comes: 21, then "leaf 8's walk and then the counter".
abbrev pub record_elements : Observer → List ℕ → Step
record_elements o elements = after_reading o (elements_of elements) (λ accepted. record_error_indication o)

-- A message recorded: what it was, or a refusal; and the observer as it leaves it.
pub record MessageStep : Type 0 where
  pub outcome : Outcome Kind
  pub observer : Observer

-- A step of the observer, as a message of this kind.
abbrev pub as_message : Kind → Step → MessageStep
as_message kind s =
    record { outcome = elim s.outcome [ refused n ↦ refused n | gives u ↦ gives kind ]; observer = s.observer }

-- A message that changes nothing: only 21 is judged before its outcome.
abbrev pub unchanged : Observer → Outcome Kind → MessageStep
unchanged o outcome = record { outcome = judged o outcome; observer = o }

-- What a message of each kind does, with this payload at this time.
abbrev pub record_kind : Observer → ℕ → List ℕ → Kind → MessageStep
record_kind o time payload MeasurementTpdu = as_message MeasurementTpdu (record_received_tpdu o time payload)
record_kind o time payload ErrorIndication = as_message ErrorIndication (record_elements o payload)
record_kind o time payload EchoResponse = unchanged o (gives EchoResponse)
record_kind o time payload (Ignored message_type) = unchanged o (gives (Ignored message_type))

-- A message of this type and payload returns at this time; 37 leaves all as it was.
unfoldable pub record_return_message : Observer → ℕ → ℕ → List ℕ → MessageStep
record_return_message o time message_type payload =
    elim (message_kind message_type) [
      | refused n ↦ unchanged o (refused n)
      | gives kind ↦ record_kind o time payload kind
    ]
