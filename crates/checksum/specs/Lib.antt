-- The Internet checksum, the damage that it finds, and what is claimed of both.
pub mod Sum
pub mod Damage
pub mod Claims
