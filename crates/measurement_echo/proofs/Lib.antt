-- The laws of the block and of the echo.
pub mod Block
