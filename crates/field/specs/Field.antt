-- Fields of a packet: values in bytes. Document 01: "Integers in packets are big-endian."
use Rattle.std.specs.Prelude.{ℕ, zero, suc, ◌+◌, ◌*◌, ◌/◌, ◌%◌, ◌^◌, ◌<◌, List, [], ◌∷◌, Bool, true, false, ◌&&◌, eqb, length, get_or}

-- Every element is a byte.
abbrev pub Bytes : List ℕ → Type 0
Bytes [] = Unit {0}
Bytes (b ∷ l) = (b < 256) × Bytes l

-- Whether two lists of bytes are the same.
abbrev pub same_bytes : List ℕ → List ℕ → Bool
same_bytes [] [] = true
same_bytes [] (y ∷ ys) = false
same_bytes (x ∷ xs) [] = false
same_bytes (x ∷ xs) (y ∷ ys) = eqb x y && same_bytes xs ys

-- A value as a field of `width` bytes, the most significant first.
abbrev pub big_endian : ℕ → ℕ → List ℕ
big_endian zero x = []
big_endian (suc width) x = x / 256 ^ width % 256 ∷ big_endian width x

-- The value of bytes, the most significant first.
abbrev pub value_of : List ℕ → ℕ
value_of [] = 0
value_of (b ∷ l) = b * 256 ^ length l + value_of l

-- `width` bytes from a place on. Past the end they read 0; no definition of a packet looks there before its length is
-- judged.
abbrev pub bytes_at : ℕ → ℕ → List ℕ → List ℕ
bytes_at zero at l = []
bytes_at (suc width) at l = get_or l at 0 ∷ bytes_at width (suc at) l

-- The value of the field of `width` bytes at a place.
abbrev pub field : ℕ → ℕ → List ℕ → ℕ
field width at l = value_of (bytes_at width at l)
