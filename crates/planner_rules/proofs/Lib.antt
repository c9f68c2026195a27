-- Laws of exchanges, of places and of passes; the theorems of demand 3.
pub mod Smallest
pub mod Clear
pub mod Passes
pub mod Windows
pub mod Keeps
pub mod Guarantee
pub mod Demand3
pub mod Told
