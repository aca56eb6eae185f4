-- Laws of the jitter's state, and the proofs of what is claimed of it.
pub mod Steps
pub mod Lists
pub mod Claims
