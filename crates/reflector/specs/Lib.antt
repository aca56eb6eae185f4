-- The reflector's call that handles a message.
pub mod Handle
