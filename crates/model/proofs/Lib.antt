-- What the proofs of the code share: slots, builders' answers, and each step check by check; and that an outcome is unique.
pub mod Slots
pub mod Built
pub mod Steps
pub mod Unique
