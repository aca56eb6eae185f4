-- The tunnel that is handed on beside the answer to a message: document 02, job 7. "Operators need the TEID and peer
-- address in it. .. The run sheet's call hands both on."
use Rattle.std.specs.Prelude.{ℕ, List}
use Rattle.error.specs.Outcome.{Outcome, refused, gives}
use Rattle.gtpu.specs.Answer.{no_tunnel, tunnel_named}
use Rattle.gtpu.specs.Indication.{indication_of}
use Rattle.gtpu.specs.declared.RefusedTunnel.{RefusedTunnel}
use Rattle.return_calls.specs.Kinds.{Kind, MeasurementTpdu, ErrorIndication, EchoResponse, Ignored}

-- Of an accepted message of each kind, with this payload: only an Error Indication names a tunnel.
abbrev pub tunnel_of_kind : Kind → List ℕ → RefusedTunnel
tunnel_of_kind MeasurementTpdu payload = no_tunnel
tunnel_of_kind ErrorIndication payload = tunnel_named (indication_of payload)
tunnel_of_kind EchoResponse payload = no_tunnel
tunnel_of_kind (Ignored message_type) payload = no_tunnel

-- By the answer: beside a refusal there is none.
abbrev pub tunnel_handed_on : Outcome Kind → List ℕ → RefusedTunnel
tunnel_handed_on (refused n) payload = no_tunnel
tunnel_handed_on (gives kind) payload = tunnel_of_kind kind payload
