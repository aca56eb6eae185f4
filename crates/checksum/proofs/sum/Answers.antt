-- `checksum::sum` meets its contract.
use Prim.Native.Nat.{ℕ, ◌+◌, ◌/◌}
use mathlib.Core.Path.{ap, ◌∙◌}
use native.Mathlib.Omega.{arith}
use lib.Bits.{bit_and, and_mask}
use Rattle.checksum.specs.Sum.{sum_of, fold_of}
use Rattle.checksum.proofs.Carries.{like_halves, like_add, fold_of_like, fold_add}
use Rattle.checksum.proofs.Sums.{block_added}
use Rattle.checksum.proofs.sum.Goals as goal

pub returns-then-bytes-gt65536 : goal.returns-then-bytes-gt65536
returns-then-bytes-gt65536 c =
    let a = c.args in
    c.sum_blocks.ensures ∙ ap (λ (n : ℕ). fold_of (n + sum_of a.bytes.now)) c.fold_u64.ensures ∙ fold_add a.start (sum_of a.bytes.now)

pub overflow_add-halves : goal.overflow_add-halves
overflow_add-halves c = omega (arith, and_mask c.args.start 32)

pub overflow_add-sum_block : goal.overflow_add-sum_block
overflow_add-sum_block c = omega (arith, and_mask c.args.start 32, c.sum_block.ensures.1)

pub returns : goal.returns
returns c =
    let a = c.args in
    let n = a.start in
    let words = sum_of a.bytes.now in
    block_added a.bytes.now (bit_and n 4294967295 + n / 4294967296) c.sum_block.result c.sum_block.ensures.0 c.fold_u64-2.ensures
    ∙ ap (λ (m : ℕ). fold_of (m + n / 4294967296 + words)) (and_mask n 32) ∙ fold_of_like (like_add words (like_halves n))
