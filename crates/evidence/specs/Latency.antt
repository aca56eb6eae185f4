-- The latencies in a report. Document 01, leaf 7: "Latency: minimum, maximum, mean rounded down; absent without
-- returns."
use Rattle.std.specs.Prelude as code
use Rattle.std.proofs.Math.Option.{Option, some, none}
use Rattle.evidence.specs.declared.LatencySummary.{LatencySummary}

-- The code's option as one of the definitions.
abbrev pub latency_means : code.Option LatencySummary → Option LatencySummary
latency_means code.None = none
latency_means (code.Some s) = some s

-- And back.
abbrev pub latency_for : Option LatencySummary → code.Option LatencySummary
latency_for none = code.None
latency_for (some s) = code.Some s
