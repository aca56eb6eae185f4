-- What is claimed of what C is told about the elements of an Error Indication. Proved in proofs/Claims.antt.
use Rattle.std.specs.Prelude.{ℕ, ◌≡◌, List, true, false, eqb}
use Rattle.error.specs.Outcome.{Outcome, refused, gives}
use Rattle.gtpu.specs.Indication.{indication_of}
use Rattle.gtpu.specs.declared.RefusedTunnel.{RefusedTunnel}
use Rattle.measurement.specs.Flow.{version_numbered}
use Rattle.testkit_packets.specs.Interface.{elements_numbers, address_left}
use Rattle.testkit_packets.specs.declared.TestkitElements.{TestkitElements}

-- What C can tell from the answer and from the address that it lent: the tunnel, or by which number it was refused.
abbrev pub elements_told : TestkitElements → List ℕ → Outcome RefusedTunnel
elements_told answer address =
    elim (eqb answer.number 0) [
      | true ↦
          gives (record {
            teid = answer.teid;
            version = version_numbered answer.version;
            peer_address = address;
          })
      | false ↦ refused answer.number
    ]

-- It is what the walk answers, whatever address was lent: no refusal is taken for a tunnel, nor one tunnel for another.
abbrev pub ElementsReadBack : Type 0
ElementsReadBack = (payload lent : List ℕ)
    → elements_told (elements_numbers (indication_of payload)) (address_left (indication_of payload) lent)
    ≡ indication_of payload
