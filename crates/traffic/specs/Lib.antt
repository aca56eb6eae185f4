-- What plans generate, and what is claimed of it.
pub mod Generate
pub mod Fits
pub mod Claims
