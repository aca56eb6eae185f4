-- The probe that a T-PDU carries.
use Rattle.std.specs.Prelude.{ℕ, List, [], ◌∷◌, ◌++◌}
use Rattle.field.specs.Field.{big_endian}

-- The tag of a probe: ASCII OPCDPTK1.
unfoldable pub measurement_magic : List ℕ
measurement_magic = 0x4f ∷ 0x50 ∷ 0x43 ∷ 0x44 ∷ 0x50 ∷ 0x54 ∷ 0x4b ∷ 0x31 ∷ []

-- Document 01: "The probe is 24 bytes: ASCII OPCDPTK1, sequence (8), send time in ns (8)."
unfoldable pub probe : ℕ → ℕ → List ℕ
probe sequence time = measurement_magic ++ big_endian 8 sequence ++ big_endian 8 time
