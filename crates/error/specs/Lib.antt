-- Refusals: their numbers, and the rule of the first cause that holds.
pub mod Answer
pub mod Number
pub mod Outcome
