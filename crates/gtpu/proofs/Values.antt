-- The address of a 133, as it is read.
use Prim.Native.Nat.{ℕ, ◌+◌, ◌≤◌}
use native.Mathlib.Omega.{arith}
use mathlib.Core.Path.{◌≡◌, sym, ap, ◌∙◌}
use mathlib.Core.Logic.{⊎_elim}
use mathlib.Core.List.{List, ◌∷◌}
use lib.ListN.{length, take, drop, get_or, replicate, length-drop}
use Rattle.field.specs.Field.{bytes_at}
use Rattle.field.proofs.Fields.{bytes_at_drop, front_bytes}
use Rattle.measurement.specs.Flow.{padded}
use Rattle.gtpu.specs.Element.{value_length}
use Rattle.gtpu.specs.Indication.{address_in}
use Rattle.gtpu.specs.Firsts.{PeerAddress}

-- the address: 4 bytes in front of zeros, or 16 bytes
module _ (l : List ℕ) (n : ℕ) (en : n ≡ value_length l) where
  pub made_of_4 : n ≡ 4 → get_or l 3 0 ∷ get_or l 4 0 ∷ get_or l 5 0 ∷ get_or l 6 0 ∷ replicate 12 0 ≡ address_in l
  unfolding padded
  made_of_4 four = ap (λ (k : ℕ). padded (bytes_at k 3 l)) (sym four ∙ en)

  pub is_16 : PeerAddress l → (n ≡ 4 → ⊥) → value_length l ≡ 16
  is_16 is other = ⊎_elim (λ four. absurd (other (en ∙ four))) (λ sixteen. sixteen) is.octets

pub copied_16 : (l part : List ℕ) → value_length l ≡ 16 → 3 + 16 ≤ length l → part ≡ take 16 (drop 3 l) → part ≡ address_in l
unfolding padded
copied_16 l part is fits e =
    e ∙ front_bytes 16 (drop 3 l) (omega (arith, length-drop 3 l)) ∙ sym (bytes_at_drop 16 3 0 l)
    ∙ ap (λ (k : ℕ). padded (bytes_at k 3 l)) (sym is)
