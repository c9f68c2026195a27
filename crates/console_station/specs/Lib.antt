-- The definitions: what the functions of this crate have done on the way to a line of the station.
pub mod Held
