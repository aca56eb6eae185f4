-- The laws of reading.
pub mod Rows
pub mod Numbers
pub mod Accept
pub mod Claims
pub mod Fragments
pub mod Padding
