-- `checksum::sum_tail` meets its contract.
use Prim.Native.Nat.{◌-◌}
use mathlib.Core.Path.{ap, ◌∙◌}
use native.Mathlib.Omega.{arith}
use lib.ListN.{length, drop, length-drop}
use lib.Seq.{take_all}
use Rattle.checksum.specs.Sum.{sum_of}
use Rattle.checksum.proofs.Sums.{sum_four}
use Rattle.checksum.proofs.sum_tail.Goals as goal

pub returns-in-len4-up : goal.returns-in-len4-up
returns-in-len4-up c =
    let l = c.args.bytes.now in
    let last = c.sum_last-in-len4-up.ensures in
    let behind = ap sum_of (take_all (length l - 4) (drop 4 l) (omega (arith, length-drop 4 l))) in (
      λ n. sum_four l n (omega arith) (c.from.ensures ∙ c.double_word.ensures) (last.0 ∙ behind),
      omega (arith, last.1),
    )
