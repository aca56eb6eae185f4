-- Damage as demand 3 has it: bits turn "within one span of at most 16 neighbouring bits .., length kept, and the span
-- not 16 equal bits all turned".
use Rattle.std.specs.Prelude.{ℕ, zero, suc, ◌+◌, ◌/◌, ◌%◌, ◌≤◌, ◌≡◌, List, [], ◌∷◌, ◌++◌, Bool, true, false, not, length, take, drop, replicate}
use Rattle.field.specs.Field.{Bytes}

-- A binary digit as a bit.
unfoldable pub is_one : ℕ → Bool
is_one zero = false
is_one (suc n) = true

-- The low `k` bits of a number, the most significant first.
unfoldable pub low_bits : ℕ → ℕ → List Bool
low_bits zero n = []
low_bits (suc k) n = low_bits k (n / 2) ++ (is_one (n % 2) ∷ [])

-- The bits of bytes in the order of transmission (RFC 791, appendix B): 8 for each byte, the most significant first.
unfoldable pub bits : List ℕ → List Bool
bits [] = []
bits (b ∷ l) = low_bits 8 b ++ bits l

-- `arrived` is `sent` with any bits of one span turned. No bit need be turned.
pub record Turned (sent arrived : List ℕ) : Type 0 where
  -- "length kept"
  pub same_length : length arrived ≡ length sent
  pub bytes : Bytes arrived
  -- the bits in front of the span, the span as sent and as arrived, the bits behind it
  pub before : List Bool
  pub span : List Bool
  pub turned : List Bool
  pub after : List Bool
  pub sent_bits : bits sent ≡ before ++ (span ++ after)
  pub arrived_bits : bits arrived ≡ before ++ (turned ++ after)
  pub same_span : length turned ≡ length span
  -- "at most 16 neighbouring bits"
  pub short : length span ≤ 16
  -- "not 16 equal bits all turned": 0x0000 and 0xffff are one number to a ones' complement sum
  pub not_all : (b : Bool) → span ≡ replicate 16 b → turned ≡ replicate 16 (not b) → ⊥

-- The bits of a message in a span: `width` neighbouring bits from bit `from` on.
abbrev pub bits_in : ℕ → ℕ → List ℕ → List Bool
bits_in from width message = take width (drop from (bits message))

-- No bit outside the span is turned, and the length is kept.
pub record TurnedWithin (from width : ℕ) (sent arrived : List ℕ) : Type 0 where
  pub same_length : length arrived ≡ length sent
  pub bytes : Bytes arrived
  pub kept_before : take from (bits arrived) ≡ take from (bits sent)
  pub kept_behind : drop (from + width) (bits arrived) ≡ drop (from + width) (bits sent)
