-- `measurement_build::halves` meets its contract.
use native.Mathlib.Omega.{arith}
use lib.Bits.{and_mask}
use Rattle.measurement_build.proofs.halves.Goals as goal

pub overflow_add-result : goal.overflow_add-result
overflow_add-result c = omega (arith, and_mask c.args.x 32)

pub returns : goal.returns
returns c = omega (arith, and_mask c.args.x 32)
