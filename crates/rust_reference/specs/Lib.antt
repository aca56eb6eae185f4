-- The Rust, a file for each of its files; its errors as document 01's numbers; and what is claimed.
pub mod Error
pub mod Values
pub mod Map
pub mod Number
pub mod Compared
pub mod Gtpu
pub mod Measurement
pub mod Evidence
pub mod Traffic
pub mod Sheet
pub mod Reflector
pub mod Sessions
pub mod Answers
pub mod Runs
pub mod Reflecting
pub mod Claims
