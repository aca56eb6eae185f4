use native.Mathlib.Omega.{arith}
use Rattle.measurement.proofs.Pseudo.{ipv4_folds, ipv6_folds}
use Rattle.measurement_decode.proofs.address_sum.Goals as goal

pub returns-in-V4 : goal.returns-in-V4
returns-in-V4 c = (ipv4_folds c.args.bytes.now c.in-V4.is c.double_word-front.ensures, omega arith)

pub returns-in-V6 : goal.returns-in-V6
returns-in-V6 c = (
  ipv6_folds c.args.bytes.now c.in-V6.is c.double_word-front.ensures c.double_word.ensures c.double_word-in-V6.ensures c.double_word-in-V6-2.ensures,
  omega arith,
)
