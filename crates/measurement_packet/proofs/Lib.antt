-- The laws of a built T-PDU.
pub mod Built
pub mod Claims
