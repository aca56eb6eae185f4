-- The columns of the run sheet, one by one, and marks beside arrival times.
pub mod Columns
pub mod Place
