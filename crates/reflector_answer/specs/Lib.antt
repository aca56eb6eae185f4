-- The reflector's answers: its state, what is answered to a message, and what a call hands back.
pub mod State
pub mod Answer
pub mod Handle
pub mod Claims
