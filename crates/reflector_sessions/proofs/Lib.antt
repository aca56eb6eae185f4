-- What 30 and 31 say of a table, what `==` says, what a search finds, what the calls leave, and the claims.
pub mod Judging
pub mod Same
pub mod Search
pub mod Calls
pub mod Claims
