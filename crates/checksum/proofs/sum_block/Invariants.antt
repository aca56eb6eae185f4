-- `checksum::sum_block` meets its contract. The loop's invariant: the sum so far and the words that are left fold to what all fold to.
use Prim.Native.Nat.{◌+◌, ◌*◌, ◌-◌, ◌%◌, ◌≤◌}
use mathlib.Core.Path.{◌≡◌}
use lib.ListN.{length, drop}
use Rattle.std.specs.Slice.Iter.{chunks_exact_rest, chunks_exact_size}
use Rattle.checksum.specs.Sum.{sum_of, fold_of}
use Rattle.checksum.proofs.sum_block.Given as goal

abbrev pub invariant-loop-eight : goal.invariant-loop-eight
invariant-loop-eight l =
    let rest = chunks_exact_rest l.eight-iterator in record {
      can_next : (goal.iterator-loop-eight).can_next l.eight-iterator;
      is_finite : (goal.iterator-loop-eight).is_finite l.eight-iterator;
      size : chunks_exact_size l.eight-iterator ≡ 8;
      within : length rest ≤ length l.bytes;
      odd : length rest % 8 ≡ length l.bytes % 8;
      behind : rest ≡ drop (length l.bytes - length rest) l.bytes;
      small : l.sum ≤ 1073741824 * (length l.bytes - length rest);
      folds : fold_of (l.sum + sum_of rest) ≡ fold_of (sum_of l.bytes);
    }
