-- The definitions: records by their kinds and lengths, the numbers given back, what stands in their bodies, and the reader.
pub mod Records
pub mod Answers
pub mod Fields
pub mod Readers
