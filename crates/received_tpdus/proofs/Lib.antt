-- A list of T-PDUs, read and recorded one after the other.
pub mod Received
pub mod Claims
