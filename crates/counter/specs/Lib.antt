-- Counts that saturate.
pub mod Counter
