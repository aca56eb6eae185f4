-- The information elements of an Error Indication: document 01, leaf 8, with the card's numbers 25 to 29.
use Rattle.std.specs.Prelude.{ℕ, zero, suc, ◌+◌, List, [], ◌∷◌, ◌++◌, Bool, true, false, not, ◌||◌, ◌&&◌, eqb, ltb, length, drop, get_or}
use Rattle.error.specs.Number.{truncated_element, invalid_peer_address_length, unsupported_fixed_length_element}
use Rattle.error.specs.Number.{missing_teid_data_i, missing_peer_address}
use Rattle.error.specs.Outcome.{Outcome, gives, Cause, ◌⇒◌, first_cause}
use Rattle.field.specs.Field.{big_endian, field}

-- The type of the element at the front of a list: one byte.
abbrev pub element_type : List ℕ → ℕ
element_type list = get_or list 0 0

-- The types of the two elements that an Error Indication must have: 16 is TEID Data I, 133 is GTP-U Peer Address.
abbrev pub teid_data_i : ℕ
teid_data_i = 16

abbrev pub gtpu_peer_address : ℕ
gtpu_peer_address = 133

abbrev pub element_types_of : List ℕ
element_types_of = teid_data_i ∷ gtpu_peer_address ∷ []

abbrev pub is_teid_data_i : ℕ → Bool
is_teid_data_i ie_type = eqb ie_type teid_data_i

abbrev pub is_peer_address : ℕ → Bool
is_peer_address ie_type = eqb ie_type gtpu_peer_address

-- "Types 128 to 255: a 2-byte length": the bytes behind the type.
abbrev pub value_length : List ℕ → ℕ
value_length list = field 2 1 list

-- "Type 16: 4 bytes. Types 128 to 255: a 2-byte length, then the value." One byte more is the type.
unfoldable pub element_size : List ℕ → ℕ
element_size list = elim (is_teid_data_i (element_type list)) [ true ↦ 1 + 4 | false ↦ 1 + 2 + value_length list ]

-- "type under 128, not 16"
abbrev pub unsupported_type : ℕ → Bool
unsupported_type ie_type = ltb ie_type 128 && not (is_teid_data_i ie_type)

-- "133 must have length 4 or 16": whether this is a 133 with another length.
abbrev pub other_length : ℕ → ℕ → Bool
other_length ie_type octets = is_peer_address ie_type && not (eqb octets 4 || eqb octets 16)

-- The causes of the element at the front, in the order in which they are judged.
unfoldable pub element_causes : List ℕ → List Cause
element_causes list =
    -- "type under 128, not 16"
    (unsupported_type (element_type list) ⇒ unsupported_fixed_length_element)
    -- "element cut": its length, which a 16 does not have
    ∷ (not (is_teid_data_i (element_type list)) && ltb (length list) (1 + 2) ⇒ truncated_element)
    -- "133 of other length", "judged (26) before its value's end (25)"
    ∷ (other_length (element_type list) (value_length list) ⇒ invalid_peer_address_length)
    -- "element cut": its value
    ∷ (ltb (length list) (element_size list) ⇒ truncated_element)
    ∷ []

-- One element: refused, or its size.
abbrev pub element_of : List ℕ → Outcome ℕ
element_of list = first_cause (element_causes list) (gives (element_size list))

-- "At the end: 28, then 29."
unfoldable pub end_of : Bool → Bool → Outcome (Unit {0})
end_of has_teid_data has_peer_address =
    first_cause
    ((not has_teid_data ⇒ missing_teid_data_i)
    ∷ (not has_peer_address ⇒ missing_peer_address)
    ∷ [])
    (gives tt)

-- "what follows an element is read by the same rule, and elements may repeat": the walk carries two flags: a 16 was
-- seen, a 133 was seen. The first number is a bound that antt's structural recursion needs. Every element has at least
-- one byte, so the list's length is enough, and at zero nothing is left. `SameRule` of specs/Claims.antt is the rule
-- without it.
unfoldable pub walk : ℕ → Bool → Bool → List ℕ → Outcome (Unit {0})
walk zero has_teid_data has_peer_address list = end_of has_teid_data has_peer_address
walk (suc bound) has_teid_data has_peer_address [] = end_of has_teid_data has_peer_address
walk (suc bound) has_teid_data has_peer_address (ie_type ∷ l) =
    let list = ie_type ∷ l in
    first_cause (element_causes list)
    (walk bound (has_teid_data || is_teid_data_i ie_type) (has_peer_address || is_peer_address ie_type)
    (drop (element_size list) list))

-- A list of elements, by which of the two required ones were seen before it.
unfoldable pub elements_from : Bool → Bool → List ℕ → Outcome (Unit {0})
elements_from has_teid_data has_peer_address list = walk (length list) has_teid_data has_peer_address list

-- The payload of an Error Indication.
unfoldable pub elements_of : List ℕ → Outcome (Unit {0})
elements_of payload = elements_from false false payload

-- Leaf 9, the payload of an Error Indication: "16, TEID, 133, length, sender's address".
abbrev pub error_indication : List ℕ → List ℕ → List ℕ
error_indication teid address = teid_data_i ∷ (teid ++ (gtpu_peer_address ∷ (big_endian 2 (length address) ++ address)))
