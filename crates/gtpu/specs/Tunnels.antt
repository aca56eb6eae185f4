-- What is claimed of the tunnel that an Error Indication names (document 02, job 7). Proved in proofs/Tunnels.antt.
use Rattle.std.specs.Prelude.{ℕ, ◌-◌, ◌^◌, ◌<◌, ◌≤◌, ◌≡◌, ◌⊎◌, List, [], ◌∷◌, ◌++◌, true, false, eqb, length, replicate, Option, Some, None}
use Rattle.error.specs.Number.{truncated_element, missing_teid_data_i, missing_peer_address}
use Rattle.error.specs.Outcome.{Outcome, refused, gives}
use Rattle.field.specs.Field.{Bytes, big_endian}
use Rattle.measurement.specs.declared.IpVersion.TheVariants.{V4, V6}
use Rattle.gtpu.specs.Element.{teid_data_i, gtpu_peer_address, elements_of, error_indication}
use Rattle.gtpu.specs.Indication.{indication_of}
use Rattle.gtpu.specs.Claims.{Example, ◌↝◌, Hold}
use Rattle.gtpu.specs.declared.RefusedTunnel.{RefusedTunnel}

-- Whether something was refused, and by which number, without what was given.
abbrev pub yes_or_no : {A : Type 0} → Outcome A → Outcome (Unit {0})
yes_or_no (refused number) = refused number
yes_or_no (gives x) = gives tt

-- "The causes and order of 25 to 29 do not move": a list is refused exactly where leaf 8 refuses it, and by the same
-- number.
unfoldable pub SameAnswer : Type 0
SameAnswer = (payload : List ℕ) → yes_or_no (indication_of payload) ≡ elements_of payload

-- And there are no other numbers: so none is 0, which C takes for accepted.
unfoldable pub IndicationNumbers : Type 0
IndicationNumbers = (payload : List ℕ) (number : ℕ) → indication_of payload ≡ refused number
    → (25 ≤ number) × (number ≤ 29)

-- An element as it is written: "Type 16: 4 bytes. Types 128 to 255: a 2-byte length, then the value."
pub data Element : Type 0 where
  teid_data : ℕ → Element
  variable : ℕ → List ℕ → Element

abbrev pub written : Element → List ℕ
written (teid_data teid) = teid_data_i ∷ big_endian 4 teid
written (variable ie_type value) = ie_type ∷ (big_endian 2 (length value) ++ value)

abbrev pub written_all : List Element → List ℕ
written_all [] = []
written_all (element ∷ elements) = written element ++ written_all elements

-- It can be written so; "133 must have length 4 or 16".
abbrev pub Writable : Element → Type 0
Writable (teid_data teid) = teid < 2 ^ 32
Writable (variable ie_type value) =
    (128 ≤ ie_type) × (length value < 2 ^ 16)
    × (ie_type ≡ gtpu_peer_address → (length value ≡ 4) ⊎ (length value ≡ 16))

abbrev pub AllWritable : List Element → Type 0
AllWritable [] = Unit {0}
AllWritable (element ∷ elements) = Writable element × AllWritable elements

-- The TEID of the first 16, and the address of the first 133.
abbrev pub first_teid : List Element → Option ℕ
first_teid [] = None
first_teid (teid_data teid ∷ elements) = Some teid
first_teid (variable ie_type value ∷ elements) = first_teid elements

abbrev pub first_address : List Element → Option (List ℕ)
first_address [] = None
first_address (teid_data teid ∷ elements) = first_address elements
first_address (variable ie_type value ∷ elements) =
    elim (eqb ie_type gtpu_peer_address) [ true ↦ Some value | false ↦ first_address elements ]

-- The tunnel of a TEID and an address: an IPv4 address has 4 bytes, and zeros behind them.
abbrev pub tunnel_to : ℕ → List ℕ → RefusedTunnel
tunnel_to teid address = record {
  teid = teid;
  version = elim (eqb (length address) 4) [ true ↦ V4 | false ↦ V6 ];
  peer_address = address ++ replicate (16 - length address) 0;
}

abbrev pub tunnel_from : Option ℕ → Option (List ℕ) → Outcome RefusedTunnel
tunnel_from None address = refused missing_teid_data_i
tunnel_from (Some teid) None = refused missing_peer_address
tunnel_from (Some teid) (Some address) = gives (tunnel_to teid address)

-- "the first element 16 and the first element 133": of elements that are written one behind the other, whichever and
-- however many, the first of each type counts.
unfoldable pub FirstOfEach : Type 0
FirstOfEach = (elements : List Element) → AllWritable elements
    → indication_of (written_all elements) ≡ tunnel_from (first_teid elements) (first_address elements)

-- And these are all: whatever bytes are accepted, they are elements that are written so.
unfoldable pub EveryAccepted : Type 0
EveryAccepted = (payload : List ℕ) (tunnel : RefusedTunnel) → Bytes payload → indication_of payload ≡ gives tunnel
    → (elements : List Element) × AllWritable elements × (payload ≡ written_all elements)

-- The payload of an Error Indication, as the reflector writes it, names its TEID and its address.
unfoldable pub ErrorIndicationNames : Type 0
ErrorIndicationNames = (teid : ℕ) (address : List ℕ) → teid < 2 ^ 32 → (length address ≡ 4) ⊎ (length address ≡ 16)
    → indication_of (error_indication (big_endian 4 teid) address) ≡ gives (tunnel_to teid address)

-- Worked examples: TEIDs 0x01020304 and 0x05060708; 10.0.0.1 and 2001:db8::1.
abbrev pub ipv4 : List ℕ
ipv4 = 10 ∷ 0 ∷ 0 ∷ 1 ∷ []

abbrev pub ipv6 : List ℕ
ipv6 = 32 ∷ 1 ∷ 13 ∷ 184 ∷ (replicate 11 0 ++ (1 ∷ []))

abbrev pub tunnel_examples : List (Example RefusedTunnel)
tunnel_examples =
    -- an IPv4 address and then an IPv6 one, and the other way round
    (16 ∷ 1 ∷ 2 ∷ 3 ∷ 4 ∷ 133 ∷ 0 ∷ 4 ∷ (ipv4 ++ (133 ∷ 0 ∷ 16 ∷ ipv6)) ↝
    gives (record { teid = 16909060; version = V4; peer_address = 10 ∷ 0 ∷ 0 ∷ 1 ∷ replicate 12 0 }))
    ∷ (16 ∷ 1 ∷ 2 ∷ 3 ∷ 4 ∷ 133 ∷ 0 ∷ 16 ∷ (ipv6 ++ (133 ∷ 0 ∷ 4 ∷ ipv4)) ↝
    gives (record { teid = 16909060; version = V6; peer_address = ipv6 }))
    -- two TEIDs behind the address
    ∷ (133 ∷ 0 ∷ 4 ∷ (ipv4 ++ (16 ∷ 5 ∷ 6 ∷ 7 ∷ 8 ∷ 16 ∷ 1 ∷ 2 ∷ 3 ∷ 4 ∷ [])) ↝
    gives (record { teid = 84281096; version = V4; peer_address = 10 ∷ 0 ∷ 0 ∷ 1 ∷ replicate 12 0 }))
    -- an element of type 255 in front, whose value looks like a TEID
    ∷ (255 ∷ 0 ∷ 5 ∷ 16 ∷ 5 ∷ 6 ∷ 7 ∷ 8 ∷ 16 ∷ 1 ∷ 2 ∷ 3 ∷ 4 ∷ 133 ∷ 0 ∷ 4 ∷ ipv4 ↝
    gives (record { teid = 16909060; version = V4; peer_address = 10 ∷ 0 ∷ 0 ∷ 1 ∷ replicate 12 0 }))
    -- a TEID and an address, and a cut element behind them
    ∷ (16 ∷ 1 ∷ 2 ∷ 3 ∷ 4 ∷ 133 ∷ 0 ∷ 4 ∷ (ipv4 ++ (16 ∷ [])) ↝ refused truncated_element)
    ∷ []

unfoldable pub TunnelExamples : Type 0
TunnelExamples = Hold indication_of tunnel_examples
