-- The laws of the crate: the texts from their parts.
pub mod Texts
pub mod ByWords
pub mod Frames
