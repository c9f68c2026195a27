-- Laws of the shares, of the search, of its rows and counts, and of the passes as the loops make them.
pub mod Eight
pub mod Steps
pub mod Rows
pub mod Tallies
pub mod Passing
