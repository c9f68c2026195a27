-- The definitions: the state's parts and what each call answers;
-- histories of calls, the table of numbers, what a caller has seen, what every history keeps, and the demands.
pub mod Answers
pub mod State
pub mod Calls
pub mod Planning
pub mod Replies
pub mod History
pub mod Numbers
pub mod Seen
pub mod Kept
pub mod Demands
pub mod Examples
pub mod Worked
