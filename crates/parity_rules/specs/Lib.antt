-- The definitions: messages, remainders, overlays, correction, and the starred examples.
pub mod Answers
pub mod Messages
pub mod Division
pub mod Overlays
pub mod Correction
pub mod Places
pub mod Corrected
pub mod Distance
pub mod Steps
pub mod Examples
