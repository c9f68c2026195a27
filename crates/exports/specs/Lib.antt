-- The definitions: answers packed into one number, and a plan as rows of numbers.
pub mod Packed
pub mod Planner
