-- The walk from the middle, for the contracts of the private functions: what it has seen, and what is left of the list.
use Rattle.std.specs.Prelude.{ℕ, ◌+◌, ◌<◌, ◌≤◌, ◌≡◌, ◌⊎◌, List, [], ◌∷◌, length, Option}
use Rattle.std.specs.Option.{option_or, option_copied}
use Rattle.error.specs.Outcome.{Outcome, gives}
use Rattle.gtpu.specs.Element.{element_type, teid_data_i, gtpu_peer_address, value_length, element_of}
use Rattle.gtpu.specs.Indication.{and_then, elements_in, first_of}
use Rattle.gtpu.specs.declared.Seen.{Seen}

-- The first 16 and the first 133.
pub record Firsts : Type 0 where
  pub teid_data : Option (List ℕ)
  pub peer_address : Option (List ℕ)

abbrev pub firsts_seen : Seen → Firsts
firsts_seen seen = record { teid_data = option_copied seen.teid_data; peer_address = option_copied seen.peer_address }

-- After one element more.
abbrev pub first_after : ℕ → Option (List ℕ) → List ℕ → Option (List ℕ)
first_after ie_type before element = option_or before (first_of ie_type (element ∷ []))

abbrev pub firsts_after : Firsts → List ℕ → Firsts
firsts_after before element = record {
  teid_data = first_after teid_data_i before.teid_data element;
  peer_address = first_after gtpu_peer_address before.peer_address element;
}

-- The first ones of a list, behind elements of which these were the first: one that was seen before stays.
unfoldable pub firsts_from : Firsts → List ℕ → Outcome Firsts
firsts_from before list =
    and_then (elements_in list)
    (λ elements. gives (record {
      teid_data = option_or before.teid_data (first_of teid_data_i elements);
      peer_address = option_or before.peer_address (first_of gtpu_peer_address elements);
    }))

-- From a list to what a walk leaves of it. It takes an element that is sound, if it may make a call; and where it stops
-- in front of another, it has made all its calls, each of which took at least one byte.
pub record Advanced (calls : ℕ) (list rest : List ℕ) : Type 0 where
  pub taken : (size : ℕ) → gives size ≡ element_of list → 0 < length list → 0 < calls → length rest < length list
  pub stopped : (size : ℕ) → gives size ≡ element_of rest → 0 < length rest → length rest + calls ≤ length list
  pub shorter : length rest ≤ length list

-- A whole 16, and a whole 133.
pub record TeidData (element : List ℕ) : Type 0 where
  pub type : element_type element ≡ 16
  pub fits : 5 ≤ length element

pub record PeerAddress (element : List ℕ) : Type 0 where
  pub type : element_type element ≡ 133
  pub octets : (value_length element ≡ 4) ⊎ (value_length element ≡ 16)
  pub fits : 3 + value_length element ≤ length element
