-- The sheet keeps the columns that it was lent.
use Rattle.rows.specs.Columns.{SameMarked}
use Rattle.rehearsal_run.proofs.travel.Given as goal

abbrev pub invariant-loop-key : goal.invariant-loop-key
invariant-loop-key l = SameMarked l.fn.sheet l.sheet
