-- The observer: document 01's run sheet. What it is, what makes it malformed, and how each call changes it.
pub mod Counts
pub mod Observer
pub mod Judge
pub mod Place
pub mod Sending
pub mod Returning
pub mod InTurn
pub mod Answer
pub mod Claims
pub mod Arrivals
