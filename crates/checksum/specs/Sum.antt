-- The Internet checksum: RFC 1071, section 1, and document 01, leaf 2.
use Rattle.std.specs.Prelude.{ℕ, zero, suc, ◌+◌, ◌-◌, ◌*◌, ◌/◌, ◌%◌, List, [], ◌∷◌, true, false, ltb}

-- RFC 1071 (1): "Adjacent octets to be checksummed are paired to form 16-bit integers".
-- Document 01: "Add 16-bit words, an odd last byte being the high half of a word".
unfoldable pub sum_of : List ℕ → ℕ
sum_of [] = 0
sum_of (a ∷ []) = a * 256
sum_of (a ∷ b ∷ l) = a * 256 + b + sum_of l

-- The carries (the bits above the low 16) are added to the low 16 bits, at most `times` times.
unfoldable pub folding : ℕ → ℕ → ℕ
folding zero n = n
folding (suc times) n = elim (ltb n 65536) [ true ↦ n | false ↦ folding times (n / 65536 + n % 65536) ]

-- Document 01: "fold carries into 16 bits", until there is none. Each fold makes the number less, so `n` times are
-- enough.
unfoldable pub fold_of : ℕ → ℕ
fold_of n = folding n n

-- RFC 1071 (2): "the 1's complement of this sum is placed in the checksum field".
unfoldable pub checksum_of : List ℕ → ℕ
checksum_of l = 65535 - fold_of (sum_of l)

-- RFC 1071, section 2: "+'", ones' complement addition. A carry out of 16 bits is added at the low end.
unfoldable pub ones_add : ℕ → ℕ → ℕ
ones_add a b = elim (ltb (a + b) 65536) [ true ↦ a + b | false ↦ a + b - 65535 ]

-- RFC 1071, section 2: "[A,B] +' [C,D] +' .. +' [Y,Z]", or ".. +' [Z,0]" where the count of bytes is odd.
unfoldable pub ones_sum : List ℕ → ℕ
ones_sum [] = 0
ones_sum (a ∷ []) = a * 256
ones_sum (a ∷ b ∷ l) = ones_add (a * 256 + b) (ones_sum l)
