-- The laws of the crate: the texts of feet from the parts that the code lays.
pub mod Texts
