-- What a message is answered, by what the search for its session found.
pub mod Handling
