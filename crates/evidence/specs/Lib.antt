-- The budget that a run is held to, and what a report's latencies mean.
pub mod Budget
pub mod Latency
