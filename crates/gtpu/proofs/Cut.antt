-- The elements that a payload is cut into: what goes on behind the first of them, and a whole 16 and a whole 133.
use Prim.Native.Nat.{ℕ, zero, suc, ◌<◌, ◌≤◌}
use native.Mathlib.Omega.{arith}
use mathlib.Core.Path.{◌≡◌, refl}
use mathlib.Core.Logic.{◌⊎◌, inl, inr}
use mathlib.Core.List.{List, [], ◌∷◌}
use mathlib.Core.Bool.{Bool, true, false, not, ◌||◌}
use Rattle.std.specs.Prelude.{Option, Some, None}
use Rattle.std.specs.Option.{option_or}
use lib.Dec.{eqb}
use lib.ListN.{length, take, drop}
use borrow.Author.Tests.{eqb-true}
use Rattle.error.specs.Outcome.{Outcome, refused, gives, Cause, ◌⇒◌, first_cause}
use Rattle.error.proofs.Causes.{Passes, passes_from, first_false}
use Rattle.error.proofs.Tests.{true_not_false}
use Rattle.gtpu.specs.Element.{element_type, is_teid_data_i, is_peer_address, value_length, element_size, other_length, element_causes}
use Rattle.gtpu.specs.Indication.{and_then, cut, elements_in, first_of}
use Rattle.gtpu.specs.Firsts.{first_after, TeidData, PeerAddress}
use Rattle.gtpu.proofs.Bounded.{goes_on}
use Rattle.gtpu.proofs.Rows.{size_16, size_other, within}

-- ---- outcomes that go on

module _ {A B : Type 0} where
  pub then_causes : (rows : List Cause) (o : Outcome A) (f : A → Outcome B) → and_then (first_cause rows o) f ≡ first_cause rows (and_then o f)
  unfolding first_cause
  then_causes [] o f = refl
  then_causes ((true ⇒ m) ∷ rows) o f = refl
  then_causes ((false ⇒ m) ∷ rows) o f = then_causes rows o f

  pub then_same : (o : Outcome A) (f g : A → Outcome B) → ((x : A) → f x ≡ g x) → and_then o f ≡ and_then o g
  then_same (refused n) f g h = refl
  then_same (gives x) f g h = h x

pub then_then : {A B C : Type 0} (o : Outcome A) (f : A → B) (g : B → Outcome C) → and_then (and_then o (λ x. gives (f x))) g ≡ and_then o (λ x. g (f x))
then_then (refused n) f g = refl
then_then (gives x) f g = refl

-- ---- a whole 16, and a whole 133

pub is_teid_data : (l : List ℕ) → Passes (element_causes l) → is_teid_data_i (element_type l) ≡ true → TeidData l
is_teid_data l p h =
    let type = eqb-true (element_type l) 16 h in
    record { type = type; fits = omega (arith, size_16 l type, within l p) }

address_octets : (n : ℕ) → other_length 133 n ≡ false → (n ≡ 4) ⊎ (n ≡ 16)
address_octets n h = by (eqb n 4) refl (eqb n 16) refl h
  where
    by : (a : Bool) → eqb n 4 ≡ a → (b : Bool) → eqb n 16 ≡ b → not (a || b) ≡ false → (n ≡ 4) ⊎ (n ≡ 16)
    by true e b f g = inl (eqb-true n 4 e)
    by false e true f g = inr (eqb-true n 16 f)
    by false e false f g = absurd (true_not_false g)

pub is_peer_address_lem : (l : List ℕ) → Passes (element_causes l) → is_peer_address (element_type l) ≡ true → PeerAddress l
unfolding element_causes
is_peer_address_lem l p h =
    let type = eqb-true (element_type l) 133 h in
    let right : other_length (element_type l) (value_length l) ≡ false = first_false (passes_from 26 p) in
    record {
      type = type;
      octets = address_octets (value_length l) (rw type at right);
      fits = omega (arith, size_other l (λ e. omega arith), within l p);
    }

-- ---- the first element, and the rest

module _ (l : List ℕ) (nonempty : 0 < length l) where
  pub cut_onward : elements_in l ≡ first_cause (element_causes l) (and_then (elements_in (drop (element_size l) l)) (λ rest. gives (take (element_size l) l ∷ rest)))
  unfolding elements_in cut
  cut_onward =
      goes_on (λ (n : ℕ) (s : Unit {0}) (l : List ℕ). cut n l) (λ (s : Unit {0}). gives []) (λ (s : Unit {0}) (l : List ℕ). tt)
      (λ (l : List ℕ) (o : Outcome (List (List ℕ))). first_cause (element_causes l) (and_then o (λ rest. gives (take (element_size l) l ∷ rest))))
      (λ s l. refl) (λ n s. refl) (λ n s b l. refl) tt l nonempty

-- an element begins with its type
pub type_of_lem : (size b : ℕ) (l : List ℕ) → 1 ≤ size → element_type (take size (b ∷ l)) ≡ b
type_of_lem zero b l h = absurd (omega arith)
type_of_lem (suc size) b l h = refl

-- the first of a type is the first element, if it is of that type, unless one was seen before
pub first_kept : (ie_type : ℕ) (before : Option (List ℕ)) (element : List ℕ) (elements : List (List ℕ))
    → option_or before (first_of ie_type (element ∷ elements)) ≡ option_or (first_after ie_type before element) (first_of ie_type elements)
first_kept ie_type (Some first) element elements = refl
first_kept ie_type None element elements = by (eqb (element_type element) ie_type)
  where
    by : (here : Bool) → (elim here as (λ (x : Bool). Option (List ℕ)) [ true ↦ Some element | false ↦ first_of ie_type elements ])
        ≡ option_or (elim here as (λ (x : Bool). Option (List ℕ)) [ true ↦ Some element | false ↦ None ]) (first_of ie_type elements)
    by true = refl
    by false = refl
