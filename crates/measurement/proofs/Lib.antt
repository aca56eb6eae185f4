-- The laws of the pseudo-header and of the versions' numbers, and the bounds that the types of the code give.
pub mod Pseudo
pub mod Range
pub mod Versions
