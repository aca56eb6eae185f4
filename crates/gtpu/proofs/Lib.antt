-- The laws of information elements, and the claims.
pub mod Rows
pub mod Bounded
pub mod Walk
pub mod Cut
pub mod Firsts
pub mod Values
pub mod Claims
pub mod Tunnels
