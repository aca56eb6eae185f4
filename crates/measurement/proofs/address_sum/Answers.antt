-- `measurement::address_sum` meets its contract.
use native.Mathlib.Omega.{arith}
use Rattle.measurement.proofs.Pseudo.{ipv4_folds, ipv6_folds}
use Rattle.measurement.proofs.address_sum.Goals as goal

pub returns-in-V4 : goal.returns-in-V4
returns-in-V4 c =
    (ipv4_folds c.args.bytes c.in-V4.is c.double_word-front.ensures, omega (arith, c.double_word-front.type_inv))

pub returns-in-V6 : goal.returns-in-V6
returns-in-V6 c = (
  ipv6_folds c.args.bytes c.in-V6.is c.double_word-front.ensures c.double_word.ensures c.double_word-in-V6.ensures c.double_word-in-V6-2.ensures,
  omega (arith, c.double_word-front.type_inv, c.double_word.type_inv, c.double_word-in-V6.type_inv, c.double_word-in-V6-2.type_inv),
)
