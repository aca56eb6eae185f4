-- The laws of outcomes and of the tests in their rows.
pub mod Causes
pub mod Tests
pub mod Among
