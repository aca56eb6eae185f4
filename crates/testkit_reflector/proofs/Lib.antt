-- What handling promises in numbers, and what reads back.
pub mod Calls
pub mod Claims
