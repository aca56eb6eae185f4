use Prim.Native.Nat.{ℕ, ◌+◌, min}
use native.Mathlib.Omega.{arith}
use mathlib.Core.Path.{◌≡◌, ap, ◌∙◌, sym}
use lib.ListN.{length}
use Rattle.std.specs.Slice.Iter.{chunks_rest}
use Rattle.checksum.specs.Sum.{sum_of, fold_of}
use Rattle.checksum.proofs.Carries.{fold_is, like_refl}
use Rattle.checksum.proofs.Sums.{block_turn, sum_none}
use Rattle.checksum.proofs.sum_blocks.Goals as goal

pub loop-block-preserved : goal.loop-block-preserved
loop-block-preserved c =
    let i = c.loop-block.invariant in
    let steps = c.in-Some.ensures.steps in
    let rest = chunks_rest c.loop-block.block-iterator in
    let sum = c.loop-block.sum in
    record {
      can_next = omega (arith, steps.0, i.size);
      is_finite = tt;
      size = steps.0 ∙ i.size;
      small = c.fold_u64-sum.type_inv;
      folds =
          block_turn 65536 rest c.in-Some.block.now (chunks_rest c.next.new.self) sum c.sum_block.result (omega arith) i.folds steps.1.0
          (steps.1.1 ∙ ap (λ (n : ℕ). min n (length rest)) i.size) c.sum_block.ensures.0
          (c.fold_u64-sum.ensures ∙ ap (λ (n : ℕ). fold_of (c.sum_block.result + n)) c.from.ensures);
    }

pub returns : goal.returns
returns c =
    let i = c.loop-block.invariant in
    let none = c.in-None.ensures.steps.1.0 in
    let all : c.loop-block.sum + sum_of (chunks_rest c.loop-block.block-iterator) ≡ c.loop-block.sum = omega (arith, sum_none (chunks_rest c.loop-block.block-iterator) (omega (arith, none))) in
    sym (fold_is (like_refl c.loop-block.sum) i.small) ∙ ap fold_of (sym all) ∙ i.folds
