-- What is claimed of the checksum. proofs/Claims.antt proves each claim, for a list of bytes of every length.
use Rattle.std.specs.Prelude.{ℕ, ◌+◌, ◌-◌, ◌/◌, ◌%◌, ◌≤◌, ◌≡◌, List, [], ◌∷◌, ◌++◌, Bool, not, length, take, drop, replicate}
use Rattle.field.specs.Field.{Bytes}
use Rattle.checksum.specs.Sum.{sum_of, fold_of, checksum_of, ones_sum}
use Rattle.checksum.specs.Damage.{bits, bits_in, Turned, TurnedWithin}

-- RFC 1071 (3): "If the result is all 1 bits .., the check succeeds."
abbrev pub Verifies : List ℕ → Type 0
Verifies message = fold_of (sum_of message) ≡ 65535

-- Adding first and folding carries afterwards is RFC 1071's ones' complement sum.
abbrev pub FoldedSum : Type 0
FoldedSum = (message : List ℕ) → Bytes message → fold_of (sum_of message) ≡ ones_sum message

-- Sums can be taken in parts, carries folded between them, where the first part has an even length.
abbrev pub SumInParts : Type 0
SumInParts = (start : ℕ) (first rest : List ℕ) → length first % 2 ≡ 0
    → fold_of (fold_of (start + sum_of first) + sum_of rest) ≡ fold_of (start + sum_of (first ++ rest))

-- A checksum placed at an even offset, over a message in which its field was 0, verifies.
abbrev pub PlacedVerifies : Type 0
PlacedVerifies = (before after : List ℕ) → length before % 2 ≡ 0
    → let c : ℕ = checksum_of (before ++ (0 ∷ 0 ∷ after)) in Verifies (before ++ (c / 256 ∷ c % 256 ∷ after))

-- The damage law: bytes that differ from those sent within one span only, and have the same sum, do not differ at all.
abbrev pub DamageFound : Type 0
DamageFound = (sent arrived : List ℕ) → Bytes sent → Turned sent arrived
    → fold_of (sum_of sent) ≡ fold_of (sum_of arrived)
    → arrived ≡ sent

-- The damage law for a receiver: a message that verifies is the one that was sent.
abbrev pub Undamaged : List ℕ → Type 0
Undamaged arrived = (sent : List ℕ) → Bytes sent → Verifies sent → Turned sent arrived → arrived ≡ sent

-- Damage to a message is damage to each part of it, and to any message that it is a part of.
pub record Clipped : Type 0 where
  pub to_front : (n : ℕ) (sent arrived : List ℕ) → Turned sent arrived → Turned (take n sent) (take n arrived)
  pub to_back : (n : ℕ) (sent arrived : List ℕ) → Turned sent arrived → Turned (drop n sent) (drop n arrived)
  pub behind : (front sent arrived : List ℕ) → Bytes front → Turned sent arrived
      → Turned (front ++ sent) (front ++ arrived)
  pub ahead : (back sent arrived : List ℕ) → Bytes back → Turned sent arrived → Turned (sent ++ back) (arrived ++ back)

-- All turned bits lie in one span of at most 16 bits. It may start at any bit, and is not 16 equal bits all turned.
pub record SpanTurned (sent arrived : List ℕ) : Type 0 where
  pub from : ℕ
  pub width : ℕ
  pub within : TurnedWithin from width sent arrived
  pub short : width ≤ 16
  pub not_all : (b : Bool) → bits_in from width sent ≡ replicate 16 b
      → bits_in from width arrived ≡ replicate 16 (not b) → ⊥

-- What counts as damage, and what does not.
pub record DamageIs : Type 0 where
  -- for every list of bytes: damage is what such a span allows, and nothing else
  pub every_span : (sent arrived : List ℕ) → SpanTurned sent arrived → Turned sent arrived
  pub only_spans : (sent arrived : List ℕ) → Turned sent arrived → SpanTurned sent arrived
  -- so: no bit turned
  pub none : (sent : List ℕ) → Bytes sent → Turned sent sent
  -- any one bit turned, wherever it stands
  pub one_bit : (sent arrived : List ℕ) → Bytes arrived → (before after : List Bool) (b : Bool)
      → bits sent ≡ before ++ (b ∷ after) → bits arrived ≡ before ++ (not b ∷ after) → Turned sent arrived
  -- 16 bits that are not all equal, all turned, in two bytes and over three
  pub sixteen_unequal : Turned (0x55 ∷ 0x55 ∷ []) (0xaa ∷ 0xaa ∷ [])
  pub over_three_bytes : Turned (0x05 ∷ 0x55 ∷ 0x50 ∷ []) (0x0a ∷ 0xaa ∷ 0xa0 ∷ [])
  -- 15 equal bits all turned, and 16 equal bits not all turned
  pub fifteen_equal : Turned (0x00 ∷ 0x00 ∷ []) (0x7f ∷ 0xff ∷ [])
  pub sixteen_not_all : Turned (0x00 ∷ 0x00 ∷ []) (0x80 ∷ 0x01 ∷ [])
  -- not 16 equal bits all turned, at an even place and across words
  pub not_sixteen_equal : Turned (0 ∷ 0 ∷ 1 ∷ 0 ∷ []) (255 ∷ 255 ∷ 1 ∷ 0 ∷ []) → ⊥
  pub not_sixteen_across : Turned (1 ∷ 255 ∷ 255 ∷ 0 ∷ []) (1 ∷ 0 ∷ 0 ∷ 0 ∷ []) → ⊥
  -- not two bits at the ends of a span of 17
  pub not_seventeen : Turned (0 ∷ 1 ∷ 0 ∷ 0 ∷ []) (0 ∷ 0 ∷ 0 ∷ 1 ∷ []) → ⊥

-- The law is sharp: what it leaves out, 16 equal bits all turned and a span of 17 bits, is not found.
pub record Sharp : Type 0 where
  pub sixteen_equal : checksum_of (255 ∷ 255 ∷ 1 ∷ 0 ∷ []) ≡ checksum_of (0 ∷ 0 ∷ 1 ∷ 0 ∷ [])
  pub sixteen_across : checksum_of (1 ∷ 0 ∷ 0 ∷ 0 ∷ []) ≡ checksum_of (1 ∷ 255 ∷ 255 ∷ 0 ∷ [])
  pub seventeen : checksum_of (0 ∷ 0 ∷ 0 ∷ 1 ∷ []) ≡ checksum_of (0 ∷ 1 ∷ 0 ∷ 0 ∷ [])

-- Worked examples: RFC 1071, section 3 (its sum 0x2ddf0 folds to 0xddf2), and an odd last byte.
pub record Examples : Type 0 where
  pub rfc_1071 : fold_of (sum_of (0x00 ∷ 0x01 ∷ 0xf2 ∷ 0x03 ∷ 0xf4 ∷ 0xf5 ∷ 0xf6 ∷ 0xf7 ∷ [])) ≡ 0xddf2
  pub odd_byte : checksum_of (0x01 ∷ 0x02 ∷ 0x03 ∷ []) ≡ 65535 - 0x0402
