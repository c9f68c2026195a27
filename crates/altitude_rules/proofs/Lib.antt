-- The laws of the crate: the parts of a code, the claims on all codes and on the way back, and worked examples.
pub mod Reckoned
pub mod Answers
pub mod Census
pub mod Forms
pub mod Hundreds
pub mod WayBack
mod Examples
