-- The definitions: the altitude code, the way back, and what is claimed of all codes.
pub mod Code
pub mod WayBack
pub mod Claims
