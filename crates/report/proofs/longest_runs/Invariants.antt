-- The longest so far, or the longest of what is left, is the whole answer.
use Rattle.std.specs.Slice.Iter.{iter_rest}
use Rattle.std.specs.Iterator.Adapters.{zip_first, zip_second}
use Rattle.report.proofs.Runs.{Running}
use Rattle.report.proofs.longest_runs.Given as goal

abbrev pub invariant-loop-sent : goal.invariant-loop-sent
invariant-loop-sent l =
    Running l.send_timestamps l.marks (iter_rest (zip_first l.sent-iterator)) (iter_rest (zip_second l.sent-iterator)) l.end l.run l.longest
