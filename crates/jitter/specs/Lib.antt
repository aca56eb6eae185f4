-- RFC 3550's interarrival jitter: integers, the state and its step, and what is claimed of them.
pub mod Integer
pub mod Jitter
pub mod Claims
