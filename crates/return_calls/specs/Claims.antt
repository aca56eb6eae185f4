-- What is claimed of the return calls. proofs/Claims.antt proves each claim.
use Rattle.std.specs.Prelude.{ℕ, ◌≡◌, ◌⊎◌, List, true, false}
use Rattle.error.specs.Outcome.{refused, gives}
use Rattle.measurement_reading.specs.Read.{read_of}
use Rattle.gtpu.specs.Answer.{no_tunnel}
use Rattle.gtpu.specs.Indication.{indication_of}
use Rattle.gtpu.specs.Message.{gtpu_msg_error_indication, gtpu_msg_supported_extension_headers_notification}
use Rattle.gtpu.specs.Message.{gtpu_msg_end_marker, gtpu_msg_gpdu}
use Rattle.gtpu.specs.declared.RefusedTunnel.{RefusedTunnel}
use Rattle.observer.specs.Observer.{Observer}
use Rattle.observer.specs.Judge.{well_formed}
use Rattle.observer.specs.Returning.{record_error_indication}
use Rattle.return_calls.specs.Kinds.{Kind, ErrorIndication, Ignored, message_type_of}
use Rattle.return_calls.specs.Returns.{record_received_tpdu, record_return_message}
use Rattle.return_calls.specs.Tunnel.{tunnel_handed_on}

-- The kind has this type, and it is one of the five.
pub record OfType (message_type : ℕ) (kind : Kind) : Type 0 where
  pub type : message_type_of kind ≡ message_type
  pub ignored : (t : ℕ) → kind ≡ Ignored t
      → (t ≡ gtpu_msg_end_marker) ⊎ (t ≡ gtpu_msg_supported_extension_headers_notification)

-- A message that is accepted is of a kind that has its type.
abbrev pub KindIsOfType : Type 0
KindIsOfType = (o : Observer) (time message_type : ℕ) (payload : List ℕ) (kind : Kind)
    → (record_return_message o time message_type payload).outcome ≡ gives kind → OfType message_type kind

-- Where 21 is not due, a T-PDU that reading refuses, by whichever number, is refused by that number, alone and in a
-- message of type 255, and the sheet is left as it was: the card's "all". 38 and 39 are such numbers too, with the
-- states of 7 and 4 (document 02, jobs 1 and 3). So a row that a fragment has marked before keeps its mark (job 1).
abbrev pub RefusedAsRead : Type 0
RefusedAsRead = (o : Observer) (time n : ℕ) (tpdu : List ℕ) → well_formed o ≡ true → read_of tpdu ≡ refused n
    → (record_received_tpdu o time tpdu ≡ record { outcome = refused n; observer = o })
    × (record_return_message o time gtpu_msg_gpdu tpdu ≡ record { outcome = refused n; observer = o })

-- Document 02, job 7: where 21 is not due, a message of type 26 whose elements name a tunnel is accepted, that tunnel
-- is handed on, and the sheet is left as it was but for the counter.
abbrev pub TunnelOfIndication : Type 0
TunnelOfIndication = (o : Observer) (time : ℕ) (payload : List ℕ) (tunnel : RefusedTunnel)
    → well_formed o ≡ true → indication_of payload ≡ gives tunnel
    → let recorded = record_return_message o time gtpu_msg_error_indication payload in
    (recorded.outcome ≡ gives ErrorIndication) × (tunnel_handed_on recorded.outcome payload ≡ tunnel)
    × (recorded.observer ≡ (record_error_indication o).observer)

-- And no other message hands on a tunnel: none of another type, none whose elements are refused, and on a malformed
-- sheet none at all.
abbrev pub NoOtherTunnel : Type 0
NoOtherTunnel = (o : Observer) (time message_type : ℕ) (payload : List ℕ)
    → let handed_on = tunnel_handed_on (record_return_message o time message_type payload).outcome payload in
    ((message_type ≡ gtpu_msg_error_indication → ⊥) → handed_on ≡ no_tunnel)
    × ((n : ℕ) → indication_of payload ≡ refused n → handed_on ≡ no_tunnel)
    × (well_formed o ≡ false → handed_on ≡ no_tunnel)
