-- Seven marks of a short message.
pub mod Seven
