-- The reflector's session table, and the calls that change it.
pub mod Session
pub mod Judge
pub mod Table
pub mod Register
pub mod Remove
pub mod Claims
