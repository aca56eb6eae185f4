-- Why demand 3 holds.
pub mod Rows
pub mod Steps
pub mod Entry
pub mod Returns
pub mod Demand
pub mod Generated
pub mod Examples
pub mod Attained
pub mod Cases
pub mod Batches
pub mod Malformed
pub mod Forecast
