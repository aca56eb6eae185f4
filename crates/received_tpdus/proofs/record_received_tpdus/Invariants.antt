-- The loop's invariant: the numbers that are written, with the outcome of the returns that are left, are the whole
-- answer; the observer is well formed; what the T-PDUs read as stands in its column, and the others are in `rest`.
use Rattle.std.proofs.Common.{◌≡◌, true, ◌++◌, map, take, drop}
use Rattle.rows.specs.Columns.{SameMarked, columns_marked}
use Rattle.observer.specs.Judge.{well_formed}
use Rattle.observer.specs.Answer.{observer_of}
use Rattle.observer.specs.InTurn.{in_turn}
use Rattle.return_calls.specs.Returns.{sequence_read}
use Rattle.received_tpdus.specs.Received.{tpdus_of, received_of, record_received, sequence_or_0}
use Rattle.received_tpdus.proofs.Received.{joined, left_from}
use Rattle.received_tpdus.proofs.record_received_tpdus.Given as goal

abbrev pub invariant-loop-i : goal.invariant-loop-i
invariant-loop-i l = record {
  same : SameMarked l.fn.sheet l.sheet;
  on : joined (take l.i l.numbers) (in_turn record_received (observer_of (columns_marked l.sheet) l.counts) (left_from l.return_timestamps (tpdus_of l.lengths l.tpdus) l.returns l.i))
      ≡ in_turn record_received (observer_of (columns_marked l.fn.sheet) l.fn.counts) (received_of l.return_timestamps (take l.returns (tpdus_of l.lengths l.tpdus)));
  well : well_formed (observer_of (columns_marked l.sheet) l.counts) ≡ true;
  numbers_left : drop l.i l.numbers ≡ drop l.i l.fn.numbers;
  tpdus_left : tpdus_of (drop l.i l.lengths) l.rest ≡ drop l.i (tpdus_of l.lengths l.tpdus);
  returned_so_far : l.returned ≡ map (λ tpdu. sequence_or_0 (sequence_read tpdu)) (take l.i (tpdus_of l.lengths l.tpdus)) ++ drop l.i l.fn.returned;
}
