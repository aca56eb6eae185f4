-- The reflector's answers at each way out.
pub mod Answers
pub mod Meant
pub mod Claims
