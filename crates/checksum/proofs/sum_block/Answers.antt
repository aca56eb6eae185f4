use native.Mathlib.Omega.{arith}
use mathlib.Core.List.{List}
use mathlib.Core.Path.{◌≡◌, ap, ◌∙◌, sym}
use Prim.Native.Nat.{ℕ, ◌+◌, ◌-◌, ◌%◌}
use lib.ListN.{length, drop}
use Rattle.std.specs.Slice.Iter.{chunks_exact_rest}
use Rattle.checksum.specs.Sum.{sum_of, fold_of}
use Rattle.checksum.proofs.Sums.{sum_eight, left_behind}
use Rattle.checksum.proofs.sum_block.Goals as goal

pub loop-eight-preserved : goal.loop-eight-preserved
loop-eight-preserved c =
    let i = c.loop-eight.invariant in
    let eight = c.in-Some.eight.now in
    let rest = chunks_exact_rest c.next.new.self in
    let steps = c.in-Some.ensures.steps in
    let parts = steps.1.0 in
    let size : length eight ≡ 8 = steps.1.1 ∙ i.size in
    let left = left_behind c.args.bytes.now _ eight rest i.behind i.within parts size in
    record {
      can_next = omega (arith, steps.0, i.size);
      is_finite = tt;
      size = steps.0 ∙ i.size;
      within = omega (arith, left.1, i.within);
      odd = omega (arith, left.1, i.odd);
      behind = left.0;
      small = omega (arith, left.1, i.small, i.within);
      folds =
          sum_eight eight rest c.loop-eight.sum size (ap (λ (l : List ℕ). fold_of (c.loop-eight.sum + sum_of l)) (sym parts) ∙ i.folds)
          (c.from.ensures ∙ c.double_word-first.ensures) (c.from-in-loop-eight.ensures ∙ c.double_word-second.ensures);
    }

pub returns : goal.returns
returns c =
    let i = c.loop-eight.invariant in
    let bytes = c.args.bytes.now in
    let fewer = c.in-None.ensures.steps.1.0 in
    let odd : length (chunks_exact_rest c.loop-eight.eight-iterator) ≡ length bytes % 8 = omega (arith, fewer, i.size, i.odd) in
    let tail = c.remainder-tail.ensures ∙ c.chunks_exact-eights.ensures.remainder ∙ ap (λ (n : ℕ). drop (length bytes - n) bytes) (sym odd) ∙ sym i.behind in (
      c.sum_tail.ensures.0 c.loop-eight.sum ∙ ap (λ (l : List ℕ). fold_of (c.loop-eight.sum + sum_of l)) tail ∙ i.folds,
      omega (arith, c.sum_tail.ensures.1, i.small),
    )
