-- The theorems on runs, on the calls that records spell, on what a reader finds and on each record's lines; and worked lines.
-- Whole streams are worked in crate `worked`.
pub mod Spaced
pub mod Runs
pub mod Spelled
pub mod ReadBack
pub mod Reader
pub mod Printed
pub mod Stands
pub mod ReadOff
pub mod Placed
mod Examples
pub mod Places
