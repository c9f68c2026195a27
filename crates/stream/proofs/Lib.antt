-- The laws of the calls of the stream: for the crate's own proofs and for its callers.
pub mod PlanLines
pub mod Lengths
pub mod Steps
pub mod Shown
pub mod Unique
