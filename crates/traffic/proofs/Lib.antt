-- The packets end to end, the code's answers, and the claims.
pub mod Packets
pub mod Answers
pub mod Claims
