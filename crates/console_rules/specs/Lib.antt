-- The definitions: what each line of feet and of the console says, the calls by their names, and the text of a whole run.
pub mod Texts
pub mod Parity
pub mod Building
pub mod Frames
pub mod FeetLines
pub mod Feet
pub mod Aircraft
pub mod Station
pub mod Explain
pub mod Help
pub mod PlainLines
pub mod Names
pub mod Reasons
pub mod Console
pub mod Strides
