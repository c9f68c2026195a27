-- The laws by which the proofs of the calls go: bytes of a message, ticks, a correction on trial, a reply check by check, planning; and that an outcome is unique.
pub mod Held
pub mod Leaves
pub mod Ticks
pub mod Trials
pub mod Settling
pub mod Replying
pub mod Joining
pub mod Unique
