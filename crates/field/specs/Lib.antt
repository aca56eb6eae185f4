-- Big-endian fields.
pub mod Field
