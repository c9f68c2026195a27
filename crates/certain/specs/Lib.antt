-- What is certain of a correction with few marks, and by it of the station's replies and of the printed line.
pub mod Certain
pub mod Replies
pub mod Lines
