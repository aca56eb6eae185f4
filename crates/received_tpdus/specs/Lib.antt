-- A list of T-PDUs that came back, taken in one call.
pub mod Received
pub mod Claims
