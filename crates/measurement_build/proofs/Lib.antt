-- What the stores and copies of the builder leave in the buffer, and what its sums are.
pub mod Words
pub mod Headers
pub mod Whole
