-- The two return calls, and what their answers mean.
pub mod Kinds
pub mod Returns
pub mod Tunnel
pub mod Answer
pub mod Reading
pub mod Claims
