-- What is handed on in the block that an echo is made in.
pub mod Block
