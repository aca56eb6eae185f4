-- A segment over the sum of its pseudo-header.
pub mod Segment
