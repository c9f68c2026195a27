-- The demands over every history, each in a file of its own, over what a call can come to and what every history keeps.
pub mod Lookup
pub mod Came
pub mod Setups
pub mod Keeping
pub mod Ages
pub mod Replies
pub mod Windows
pub mod Numbers
pub mod Demands
