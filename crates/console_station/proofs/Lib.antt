-- The laws of the crate: what a line says, from what was laid, and from what was read of its words.
pub mod Texts
pub mod Widths
pub mod ByWords
pub mod Said
pub mod Listed
