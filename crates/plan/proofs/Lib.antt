-- The causes of a plan and their closed form, the code's answers, and the claims.
pub mod Rows
pub mod Judged
pub mod Answers
pub mod Claims
