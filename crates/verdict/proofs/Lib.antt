-- The laws of the verdict.
pub mod Claims
