-- What is claimed of the information elements of an Error Indication. Proved in proofs/Claims.antt.
use Rattle.std.specs.Prelude.{ℕ, ◌≡◌, ◌⊎◌, List, [], ◌∷◌, ◌++◌, Bool, ◌||◌, length, drop, replicate}
use Rattle.error.specs.Number.{truncated_element, invalid_peer_address_length, unsupported_fixed_length_element}
use Rattle.error.specs.Number.{missing_teid_data_i, missing_peer_address}
use Rattle.error.specs.Outcome.{Outcome, refused, gives, first_cause}
use Rattle.gtpu.specs.Element.{is_teid_data_i, is_peer_address, element_size, element_causes, end_of}
use Rattle.gtpu.specs.Element.{elements_from, elements_of, error_indication}

-- "what follows an element is read by the same rule": the walk, without the number that bounds its recursion.
unfoldable pub SameRule : Type 0
SameRule = (has_teid_data has_peer_address : Bool) (ie_type : ℕ) (l : List ℕ) →
    let list = ie_type ∷ l in
    elements_from has_teid_data has_peer_address list ≡
    first_cause (element_causes list)
    (elements_from (has_teid_data || is_teid_data_i ie_type) (has_peer_address || is_peer_address ie_type)
    (drop (element_size list) list))

-- "At the end: 28, then 29.": also without the number that bounds the recursion.
unfoldable pub EndRule : Type 0
EndRule = (has_teid_data has_peer_address : Bool)
    → elements_from has_teid_data has_peer_address [] ≡ end_of has_teid_data has_peer_address

-- Case 8: "An empty element list gives 28."
unfoldable pub EmptyList : Type 0
EmptyList = elements_of [] ≡ refused missing_teid_data_i

-- The payload of an Error Indication is accepted, for every TEID and every IPv4 or IPv6 address.
abbrev pub ErrorIndicationAccepted : Type 0
ErrorIndicationAccepted = (teid address : List ℕ) → length teid ≡ 4 → (length address ≡ 4) ⊎ (length address ≡ 16)
    → elements_of (error_indication teid address) ≡ gives tt

-- Worked examples: a list, and its outcome.
pub data Example (A : Type 0) : Type 0 where
  ◌↝◌ : List ℕ → Outcome A → Example A

infix 20 ◌↝◌
abbrev pub Hold : {A : Type 0} → (List ℕ → Outcome A) → List (Example A) → Type 0
Hold outcome_of [] = Unit {0}
Hold outcome_of ((list ↝ outcome) ∷ examples) = (outcome_of list ≡ outcome) × Hold outcome_of examples

abbrev pub examples : List (Example (Unit {0}))
examples =
    -- a type under 128, even as the last byte, and behind a 16 and a 133
    (127 ∷ [] ↝ refused unsupported_fixed_length_element)
    ∷ (16 ∷ 1 ∷ 2 ∷ 3 ∷ 4 ∷ 133 ∷ 0 ∷ 4 ∷ 10 ∷ 0 ∷ 0 ∷ 1 ∷ 7 ∷ [] ↝ refused unsupported_fixed_length_element)
    -- cut: a 16, a length, a value
    ∷ (16 ∷ 1 ∷ 2 ∷ 3 ∷ [] ↝ refused truncated_element)
    ∷ (133 ∷ 0 ∷ [] ↝ refused truncated_element)
    ∷ (133 ∷ 0 ∷ 4 ∷ 10 ∷ 0 ∷ 0 ∷ [] ↝ refused truncated_element)
    -- a 133 of length 5, its value cut as well
    ∷ (133 ∷ 0 ∷ 5 ∷ 10 ∷ [] ↝ refused invalid_peer_address_length)
    -- neither 16 nor 133; no 16; no 133
    ∷ (128 ∷ 0 ∷ 0 ∷ [] ↝ refused missing_teid_data_i)
    ∷ (133 ∷ 0 ∷ 4 ∷ 10 ∷ 0 ∷ 0 ∷ 1 ∷ [] ↝ refused missing_teid_data_i)
    ∷ (16 ∷ 1 ∷ 2 ∷ 3 ∷ 4 ∷ [] ↝ refused missing_peer_address)
    -- 133 twice, with an IPv4 and then an IPv6 address
    ∷ (error_indication (1 ∷ 2 ∷ 3 ∷ 4 ∷ []) (10 ∷ 0 ∷ 0 ∷ 1 ∷ []) ++ (133 ∷ 0 ∷ 16 ∷ replicate 16 0) ↝ gives tt)
    ∷ []

unfoldable pub Examples : Type 0
Examples = Hold elements_of examples
