use native.Mathlib.Omega.{arith}
use lib.Bits.{and_mask}
use Rattle.measurement_decode.proofs.low_half.Goals as goal

pub overflow_cast-result : goal.overflow_cast-result
overflow_cast-result c = omega (arith, and_mask c.args.byte 4)

pub returns : goal.returns
returns c = omega (arith, and_mask c.args.byte 4)
