-- The laws that the proofs of the calls rest on, and the claims.
pub mod Rows
pub mod Judging
pub mod OutOfOrder
pub mod Calls
pub mod Entering
pub mod Arriving
pub mod Keeping
pub mod Claims
pub mod Arrivals
