-- The laws of the crate: a line by its words, and why it is not read.
pub mod Lines
mod Judging
mod ByName
