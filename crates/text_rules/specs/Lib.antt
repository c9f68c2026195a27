-- The definitions: text laid into a buffer, lines and words, numbers, bytes in hex.
pub mod Put
pub mod Plain
pub mod Line
pub mod Number
pub mod Hex
pub mod Bases
pub mod Signed
pub mod Run
pub mod Pieces
