-- Why the checksum's claims hold.
pub mod Carries
pub mod Bits
pub mod Clip
pub mod Spans
pub mod Spot
pub mod Sums
pub mod Burst
pub mod Claims
