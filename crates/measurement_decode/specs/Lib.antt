-- What the reader's helpers are handed, and its answer in numbers.
pub mod Numbers
pub mod Part
