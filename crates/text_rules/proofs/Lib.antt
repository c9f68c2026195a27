-- Worked examples, and the laws of the definitions: for the proofs of crate text and of its callers.
mod Examples
pub mod Laid
pub mod Decimal
pub mod Runs
pub mod Lines
pub mod Words
pub mod Parted
pub mod HexMade
pub mod HexRead
pub mod Signs
pub mod Pieces
