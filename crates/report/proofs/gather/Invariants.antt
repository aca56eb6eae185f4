-- Of the marked latencies, all but those that are left are gathered.
use Rattle.std.specs.Slice.Iter.{iter_rest}
use Rattle.std.specs.Iterator.Adapters.{zip_first, zip_second}
use Rattle.report.proofs.Latencies.{Gathering}
use Rattle.report.proofs.gather.Given as goal

abbrev pub invariant-loop-latency : goal.invariant-loop-latency
invariant-loop-latency l =
    Gathering l.latencies l.marks (iter_rest (zip_first l.latency-iterator)) (iter_rest (zip_second l.latency-iterator)) l.gathered
