-- The laws of building, reading and echoing together.
pub mod ReadBack
pub mod Damaged
pub mod Leg
pub mod Claims
pub mod Fragments
pub mod Padding
