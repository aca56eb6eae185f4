-- A reflector on a T-PDU's way, the way itself, and what is claimed of it.
pub mod Hop
pub mod Way
pub mod Claims
