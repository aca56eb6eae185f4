-- How entering a packet and taking a return change the columns of a run sheet.
pub mod Columns
pub mod Search
pub mod Entering
pub mod Arriving
