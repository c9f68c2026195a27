-- The definitions: the lines that records print, what a whole record does, and the run of a whole stream; the calls that its records spell, what
-- a reader sees and finds, and what the demands say of each record's lines.
pub mod Lines
pub mod Step
pub mod Run
pub mod Spelled
pub mod Reader
pub mod Printed
