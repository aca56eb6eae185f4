-- The echo of a T-PDU, and what is claimed of building, reading and echoing together.
pub mod Echo
pub mod Claims
pub mod Fragments
pub mod Padding
