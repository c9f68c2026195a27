-- The laws of the next line.
pub mod First
