-- The claims: the transponder's listing agrees, case P1, a stream with a record of every kind, and streams that end at once.
pub mod Transponder
mod CaseP1
mod EveryKind
mod Ends
