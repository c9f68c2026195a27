-- The laws of frames, for the proofs of the calls and for the crates above.
pub mod Told
pub mod Numbers
pub mod Quotient
pub mod Laying
pub mod Ranges
pub mod Lines
pub mod Heads
pub mod Sealing
pub mod Outcomes
pub mod Invert
pub mod Unique
pub mod Interrogations
pub mod Done
pub mod Rebuilt
