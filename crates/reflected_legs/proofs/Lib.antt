-- Why routes keep the leg.
pub mod Hops
pub mod Legs
pub mod Claims
