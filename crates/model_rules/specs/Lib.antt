-- The definitions: the state, the steps of document 01 in their order, histories of calls, what each keeps and what is shown of them, and edges of the tables.
pub mod State
pub mod Answers
pub mod Lapse
pub mod Lockout
pub mod CommB
pub mod Replies
pub mod Calls
pub mod Said
pub mod History
pub mod Story
pub mod Numbers
pub mod Seen
pub mod Replied
pub mod Kept
pub mod Strides
pub mod Demands
pub mod Edges
