-- The examples of the transponder at its edges, as one listing.
pub mod Transponder
