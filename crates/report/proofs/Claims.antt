-- The claim of specs/Claims.antt.
use mathlib.Core.Path.{◌≡◌, refl}
use mathlib.Core.Option.{Option, some, none}
use Rattle.evidence.specs.Latency.{latency_means, latency_for}
use Rattle.evidence.specs.declared.LatencySummary.{LatencySummary}
use Rattle.report.specs.Report.{latencies_of, latency_of, report_of}
use Rattle.report.specs.Claims.{LatencyOfTheRows}

-- the case for a meaning has that meaning
meaning : (x : Option LatencySummary) → latency_means (latency_for x) ≡ x
meaning none = refl
meaning (some s) = refl

pub latency_of_the_rows : LatencyOfTheRows
unfolding report_of
latency_of_the_rows rows counts window_start window_end budget = meaning (latency_of (latencies_of rows))
