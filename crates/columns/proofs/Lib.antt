-- The laws that the proofs of the loops rest on, and what they are on columns that rise.
pub mod Gathering
pub mod Search
pub mod Insertion
