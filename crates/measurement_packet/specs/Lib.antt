-- A T-PDU as it is built, and what is claimed of its checksums.
pub mod Packet
pub mod Claims
