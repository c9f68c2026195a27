-- The definitions: a file for each topic of document 01's "Ticks, windows, shares".
pub mod Exchange
pub mod Fits
pub mod Shares
pub mod Plan
pub mod Demand3
pub mod Told
pub mod Examples
