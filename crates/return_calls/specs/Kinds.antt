-- What a returned message is, by its type: document 01, leaf 6.
use Rattle.std.specs.Prelude.{ℕ, List, [], ◌∷◌, true, false, eqb}
use Rattle.error.specs.Number.{unsupported_message_type}
use Rattle.error.specs.Outcome.{Outcome, refused, gives}
use Rattle.gtpu.specs.Message.{gtpu_msg_echo_response, gtpu_msg_error_indication}
use Rattle.gtpu.specs.Message.{gtpu_msg_supported_extension_headers_notification, gtpu_msg_end_marker, gtpu_msg_gpdu}

-- What a message is. (In the code an Error Indication has its tunnel in it: `kind_of` of specs/Answer.antt.)
pub data Kind : Type 0 where
  MeasurementTpdu : Kind
  ErrorIndication : Kind
  EchoResponse : Kind
  Ignored : ℕ → Kind

-- The type of a message of each kind: "type 255 is a return, 26 is leaf 8's walk .., 2 is noted, 254 and 31 ignored".
abbrev pub message_type_of : Kind → ℕ
message_type_of MeasurementTpdu = gtpu_msg_gpdu
message_type_of ErrorIndication = gtpu_msg_error_indication
message_type_of EchoResponse = gtpu_msg_echo_response
message_type_of (Ignored message_type) = message_type

-- The kinds that there are: a message is ignored only if its type is 254 or 31.
abbrev pub kinds : List Kind
kinds =
    MeasurementTpdu
    ∷ ErrorIndication
    ∷ EchoResponse
    ∷ Ignored gtpu_msg_end_marker
    ∷ Ignored gtpu_msg_supported_extension_headers_notification
    ∷ []

-- The first of these kinds that has the type; "others (1 too) get 37".
abbrev pub kind_among : List Kind → ℕ → Outcome Kind
kind_among [] message_type = refused unsupported_message_type
kind_among (kind ∷ rest) message_type =
    elim (eqb message_type (message_type_of kind)) [ true ↦ gives kind | false ↦ kind_among rest message_type ]

unfoldable pub message_kind : ℕ → Outcome Kind
message_kind message_type = kind_among kinds message_type
