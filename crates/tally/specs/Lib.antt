-- Document 01's tally, demand 3 over it, what meets its hypotheses, the eight cases, runs made with batch calls,
-- malformed sheets, what a plan generates, read back, and the forecast of it.
pub mod Tally
pub mod Demand
pub mod Cases
pub mod Attained
pub mod Batches
pub mod Malformed
pub mod Generated
pub mod Forecast
