-- What the two return calls make of what was read and walked.
pub mod Laws
pub mod Claims
