-- Which tunnel an Error Indication names: document 02, job 7. "The element walk returns the first element 16 and the
-- first element 133 of an accepted list." What it refuses, and in which order, is leaf 8's (specs/Element.antt);
-- `SameAnswer` of specs/Tunnels.antt says that the two agree on every list.
use Rattle.std.specs.Prelude.{ℕ, zero, suc, List, [], ◌∷◌, true, false, eqb, length, take, drop, Option, Some, None}
use Rattle.error.specs.Number.{missing_teid_data_i, missing_peer_address}
use Rattle.error.specs.Outcome.{Outcome, refused, gives, first_cause}
use Rattle.field.specs.Field.{bytes_at, field}
use Rattle.measurement.specs.Flow.{padded}
use Rattle.measurement.specs.declared.IpVersion.{IpVersion}
use Rattle.measurement.specs.declared.IpVersion.TheVariants.{V4, V6}
use Rattle.gtpu.specs.Element.{element_type, teid_data_i, gtpu_peer_address, value_length, element_size, element_causes}
use Rattle.gtpu.specs.declared.RefusedTunnel.{RefusedTunnel}

-- A refusal stays as it is, and what is given goes on.
abbrev pub and_then : {A B : Type 0} → Outcome A → (A → Outcome B) → Outcome B
and_then (refused n) next = refused n
and_then (gives x) next = next x

-- A list cut into its elements, each whole, from its type to the end of its value; or refused by the first element that
-- has a cause. The first number is a bound, as in `walk`: at zero nothing is left.
unfoldable pub cut : ℕ → List ℕ → Outcome (List (List ℕ))
cut zero list = gives []
cut (suc bound) [] = gives []
cut (suc bound) (ie_type ∷ l) =
    let list = ie_type ∷ l in
    first_cause (element_causes list)
    (and_then (cut bound (drop (element_size list) list)) (λ rest. gives (take (element_size list) list ∷ rest)))

unfoldable pub elements_in : List ℕ → Outcome (List (List ℕ))
elements_in payload = cut (length payload) payload

-- The first element of a type: those behind it are not looked at.
abbrev pub first_of : ℕ → List (List ℕ) → Option (List ℕ)
first_of ie_type [] = None
first_of ie_type (element ∷ elements) =
    elim (eqb (element_type element) ie_type) [ true ↦ Some element | false ↦ first_of ie_type elements ]

-- "Type 16: 4 bytes", behind the type.
abbrev pub teid_in : List ℕ → ℕ
teid_in element = field 4 1 element

-- "133 must have length 4 or 16": an IPv4 address has 4 bytes, an IPv6 address 16.
abbrev pub version_in : List ℕ → IpVersion
version_in element = elim (eqb (value_length element) 4) [ true ↦ V4 | false ↦ V6 ]

-- The address is the value, behind the type and the 2-byte length. "of an IPv4 address only the first 4 bytes count,
-- and what makes one leaves the rest 0" (document 01).
abbrev pub address_in : List ℕ → List ℕ
address_in element = padded (bytes_at (value_length element) 3 element)

-- The tunnel that a 16 and a 133 name.
abbrev pub tunnel_of : List ℕ → List ℕ → RefusedTunnel
tunnel_of teid_data peer_address = record {
  teid = teid_in teid_data;
  version = version_in peer_address;
  peer_address = address_in peer_address;
}

-- "At the end: 28, then 29."; else the tunnel.
abbrev pub named : Option (List ℕ) → Option (List ℕ) → Outcome RefusedTunnel
named None peer_address = refused missing_teid_data_i
named (Some teid_data) None = refused missing_peer_address
named (Some teid_data) (Some peer_address) = gives (tunnel_of teid_data peer_address)

-- The payload of an Error Indication: by which number it is refused, or the tunnel that it names.
unfoldable pub indication_of : List ℕ → Outcome RefusedTunnel
indication_of payload =
    and_then (elements_in payload)
    (λ elements. named (first_of teid_data_i elements) (first_of gtpu_peer_address elements))
