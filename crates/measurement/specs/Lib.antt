-- Measurement T-PDUs: what building and reading share, and what the calls answer.
pub mod Layout
pub mod Flow
pub mod Pseudo
pub mod Probe
pub mod Answer
pub mod Claims
