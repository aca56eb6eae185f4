-- The laws of the calls on a run sheet.
pub mod Verdict
pub mod Told
