-- The laws that the reader's functions cite, and what their callers know.
pub mod Callers
pub mod Laws
