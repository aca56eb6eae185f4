-- How the C interface represents what the calls on packets answer, and what is claimed of that.
pub mod Interface
pub mod Claims
