-- The theorems of the transponder: edges, timers, lapses, draws, what a call comes to, who holds, what every history keeps, numbers, what the calls tell,
-- replies, and strides of the clock.
pub mod Edges
pub mod Timing
pub mod Lapsing
pub mod Draws
pub mod Came
pub mod Holding
pub mod Closing
pub mod Keeping
pub mod Numbers
pub mod Telling
pub mod Locked
pub mod Responding
pub mod Calling
pub mod Sending
pub mod Strides
pub mod Demands
