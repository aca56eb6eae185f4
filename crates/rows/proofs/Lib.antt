-- How far the columns reach, and each call by its ways out.
pub mod Within
pub mod Ways
