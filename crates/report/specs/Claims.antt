-- What is claimed of the report. proofs/Claims.antt proves it.
use Rattle.std.specs.Prelude.{ℕ, ◌≡◌, List}
use Rattle.evidence.specs.Latency.{latency_means}
use Rattle.evidence.specs.declared.PacketContinuityBudget.{PacketContinuityBudget}
use Rattle.observer.specs.Observer.{Row}
use Rattle.observer.specs.declared.ObserverCounts.{ObserverCounts}
use Rattle.report.specs.Report.{latencies_of, latency_of, report_of}

-- What the report's latency means is "minimum, maximum, mean rounded down; absent without returns", of the rows that
-- returned.
abbrev pub LatencyOfTheRows : Type 0
LatencyOfTheRows =
    (rows : List Row) (counts : ObserverCounts) (window_start window_end : ℕ) (budget : PacketContinuityBudget)
    → latency_means (report_of rows counts window_start window_end budget).latency ≡ latency_of (latencies_of rows)
