-- The laws that the report's proofs rest on.
pub mod Division
pub mod Latencies
pub mod Runs
pub mod Reporting
pub mod Claims
