-- The report on a run, what its answer means, and what its loops compute.
pub mod Report
pub mod Loops
pub mod Claims
