-- How the C interface represents what the calls on a run sheet answer, and the verdict on a report.
pub mod Interface
pub mod Verdict
pub mod Claims
