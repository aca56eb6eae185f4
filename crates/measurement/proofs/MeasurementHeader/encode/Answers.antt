use Rattle.std.proofs.Common.{◌≡◌, ℕ, ◌/◌, ◌^◌, List, ◌++◌, arith, refl, w64}
use mathlib.Core.Path.{ap₂}
use Rattle.std.specs.Int.{to_be_bytes}
use Rattle.field.specs.Field.{big_endian}
use Rattle.measurement.specs.Probe.{probe, measurement_magic}
use Rattle.measurement.proofs.MeasurementHeader.encode.Goals as goal

-- std's bytes of a number are those of its field.
is_big_endian : (x : ℕ) → to_be_bytes w64 x ≡ big_endian 8 x
is_big_endian x = let last : x / 256 ^ 0 ≡ x = omega arith in rw last refl

pub returns : goal.returns
unfolding probe measurement_magic
returns c =
    rw (
      c.copy_from_slice.ensures.after,
      c.copy_from_slice-2.ensures.after,
      c.copy_from_slice-3.ensures.after,
      c.to_be_bytes.ensures,
      c.to_be_bytes-2.ensures,
      c.to_be_bytes-3.ensures,
    )
    (ap₂ (λ (s t : List ℕ). measurement_magic ++ s ++ t) (is_big_endian c.args.self.sequence)
    (is_big_endian c.args.self.send_timestamp_ns))
