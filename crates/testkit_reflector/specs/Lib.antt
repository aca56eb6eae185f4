-- How the answers of the reflector's calls look at the C interface.
pub mod Interface
pub mod Claims
