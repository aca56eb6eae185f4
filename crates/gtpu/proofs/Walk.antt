-- Leaf 8's walk: what follows an element is read by the same rule, whatever number bounds the recursion.
use Prim.Native.Nat.{ℕ, ◌<◌}
use mathlib.Core.Path.{◌≡◌, refl}
use mathlib.Core.List.{List}
use mathlib.Core.Bool.{Bool, ◌||◌}
use lib.ListN.{length, drop}
use Rattle.error.specs.Outcome.{Outcome, refused, gives, first_cause}
use Rattle.gtpu.specs.Element.{element_type, is_teid_data_i, is_peer_address, element_size, element_causes, element_of, end_of, walk, elements_from}
use Rattle.gtpu.proofs.Bounded.{Laws, laws}

-- what has been seen behind the element at the front
abbrev pub teid_after : Bool → List ℕ → Bool
teid_after t l = t || is_teid_data_i (element_type l)

abbrev pub peer_after : Bool → List ℕ → Bool
peer_after p l = p || is_peer_address (element_type l)

abbrev Seen : Type 0
Seen = Bool × Bool

abbrev behind : Seen → List ℕ → Seen
behind s l = (teid_after s.0 l, peer_after s.1 l)

abbrev ends_by : Seen → Outcome (Unit {0})
ends_by s = end_of s.0 s.1

of_the_walk : Laws (λ (s : Seen) (l : List ℕ). elements_from s.0 s.1 l) ends_by behind
unfolding elements_from walk
of_the_walk = laws (λ (n : ℕ) (s : Seen) (l : List ℕ). walk n s.0 s.1 l) ends_by behind (λ s l. refl) (λ n s. refl) (λ n s b l. refl)

module _ (t p : Bool) (l : List ℕ) where
  pub at_end : length l ≡ 0 → end_of t p ≡ elements_from t p l
  at_end e = of_the_walk.ends (t, p) l e

  pub onward : 0 < length l → elements_from t p l ≡ first_cause (element_causes l) (elements_from (teid_after t l) (peer_after p l) (drop (element_size l) l))
  onward h = of_the_walk.onward (t, p) l h

  pub refuses_list : (n : ℕ) → 0 < length l → refused n ≡ element_of l → refused n ≡ elements_from t p l
  refuses_list n h e = of_the_walk.refuses (t, p) l n h e

  pub follows : (n : ℕ) → 0 < length l → gives n ≡ element_of l → elements_from (teid_after t l) (peer_after p l) (drop n l) ≡ elements_from t p l
  follows n h e = of_the_walk.follows (t, p) l n h e
