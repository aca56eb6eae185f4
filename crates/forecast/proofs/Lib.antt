-- The figures of a plan's packets, the code's answers, and the claims.
pub mod Figures
pub mod Answers
pub mod Claims
