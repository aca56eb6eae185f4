-- The claim.
pub mod Claims
