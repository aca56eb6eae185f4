-- What a struct's field of bytes says of them.
use Prim.Native.Nat.{ℕ}
use mathlib.Core.Path.{◌≡◌}
use mathlib.Core.List.{List, [], ◌∷◌}
use lib.ListN.{length}
use mir.Val.{Val}
use denote.Array.{Array, each}
use denote.Builtin.{u8}
use denote.Laws.{Is}
use denote.Shadow.{shadow}
use Rattle.field.specs.Field.{Bytes}

module _ (n : ℕ) (xs : List ℕ) (vs : List Val) (is : Is (Array u8 n) xs vs) where
  pub length_of : length xs ≡ n
  length_of = is.1.0.1

  pub bytes_of : Bytes xs
  bytes_of = go xs is.0 is.1.1
    where
      go : (xs : List ℕ) (us : List Val) → shadow (each ℕ u8.own_val xs us) → Bytes xs
      go [] us h = tt
      go (x ∷ xs) [] h = absurd h
      go (x ∷ xs) (u ∷ us) h = (h.0.1, go xs us h.1)
