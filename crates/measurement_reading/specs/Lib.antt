-- Reading a T-PDU.
pub mod Read
pub mod Claims
pub mod Fragments
pub mod Padding
