-- Integers and slices, as the Rust's functions use them.
use Rattle.std.specs.Prelude.{ℕ, ◌+◌, ◌*◌, ◌%◌, min, Bool, List, ◌++◌, length, take, drop, slice_index, slice_range}
use Rattle.field.specs.Field.{same_bytes}

-- `slice[at]`. The Rust panics past the end; every index in these files is behind a test of the length.
abbrev pub index : List ℕ → ℕ → ℕ
index slice at = slice_index slice at

-- `&slice[from..to]`, likewise
abbrev pub range : List ℕ → ℕ → ℕ → List ℕ
range slice from to = slice_range slice from to

-- `slice[at..].copy_from_slice(bytes)`, where the range has the length of `bytes`
abbrev pub copy_from_slice : List ℕ → ℕ → List ℕ → List ℕ
copy_from_slice slice at bytes = take at slice ++ bytes ++ drop (at + length bytes) slice

-- `==` on slices
abbrev pub same : List ℕ → List ℕ → Bool
same x y = same_bytes x y

-- `u16::from_be_bytes([slice[at], slice[at + 1]])`
abbrev pub u16_at : List ℕ → ℕ → ℕ
u16_at slice at = index slice at * 256 + index slice (at + 1)

-- `u32::wrapping_add`
unfoldable pub wrapping_add : ℕ → ℕ → ℕ
wrapping_add a b = (a + b) % 4294967296

-- the top of a u64, and `u64::saturating_add`; `saturating_sub` is `◌-◌` of the naturals, which stops at 0
abbrev pub u64_max : ℕ
u64_max = 18446744073709551615

unfoldable pub saturating_add : ℕ → ℕ → ℕ
saturating_add a b = min (a + b) u64_max

-- `u128::saturating_add`
unfoldable pub saturating_add_u128 : ℕ → ℕ → ℕ
saturating_add_u128 a b = min (a + b) 340282366920938463463374607431768211455
