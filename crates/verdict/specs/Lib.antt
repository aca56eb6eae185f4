-- The verdict on a run.
pub mod Verdict
pub mod Claims
