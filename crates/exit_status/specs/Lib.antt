-- The exit status of the command `rehearse`.
pub mod Status
