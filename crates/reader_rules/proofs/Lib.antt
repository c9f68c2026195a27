-- The laws of records, for the calls and for the crates above, and worked examples.
pub mod Steps
pub mod Answers
pub mod Parts
pub mod Readers
pub mod Examples
