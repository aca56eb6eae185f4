-- The laws of big-endian fields, and of bytes that are written one part after the other.
pub mod Fields
pub mod Parts
