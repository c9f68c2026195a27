-- The laws of bit numbers laid one after the other, for the crate's own proofs and for its callers.
pub mod Laying
