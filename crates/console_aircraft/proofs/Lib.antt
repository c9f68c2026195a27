-- The laws of the crate: the texts from what the code has laid.
pub mod Texts
