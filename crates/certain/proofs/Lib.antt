-- What a distance makes certain of corrections, of the station's replies and of printed lines; five marks at both lengths; and that no more is certain.
pub mod Few
pub mod Chance
pub mod Replies
pub mod Lines
pub mod Five
pub mod Reached
