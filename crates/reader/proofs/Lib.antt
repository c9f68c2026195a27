-- Laws for the proofs of the calls: of the numbers in a body, and of the table of a place.
pub mod Numbers
pub mod Places
