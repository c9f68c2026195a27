-- The laws of the lines: that each one's text fits, the table of names, and the whole run; and worked runs and lines.
pub mod FeetRun
pub mod Short
pub mod ShortAircraft
pub mod Table
pub mod Run
pub mod Strides
mod AircraftExamples
mod Examples
mod StationExamples
