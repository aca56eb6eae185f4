-- `checksum::sum_blocks` meets its contract. The loop's invariant: the sum so far and the words that are left fold to what all fold to.
use Prim.Native.Nat.{◌+◌, ◌<◌}
use mathlib.Core.Path.{◌≡◌}
use Rattle.std.specs.Slice.Iter.{chunks_rest, chunks_size}
use Rattle.checksum.specs.Sum.{sum_of, fold_of}
use Rattle.checksum.proofs.sum_blocks.Given as goal

abbrev pub invariant-loop-block : goal.invariant-loop-block
invariant-loop-block l = record {
  can_next : (goal.iterator-loop-block).can_next l.block-iterator;
  is_finite : (goal.iterator-loop-block).is_finite l.block-iterator;
  size : chunks_size l.block-iterator ≡ 65536;
  small : l.sum < 65536;
  folds : fold_of (l.sum + sum_of (chunks_rest l.block-iterator)) ≡ fold_of (l.start + sum_of l.bytes);
}
