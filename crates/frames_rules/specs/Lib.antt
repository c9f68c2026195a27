-- The definitions of document 01's section "Fields": answers, bytes, fields, formats, codes, building and reading.
pub mod Answers
pub mod Bytes
pub mod Fields
pub mod Formats
pub mod Shared
pub mod Frames
pub mod Building
pub mod Reading
pub mod Interrogations
pub mod Codes
pub mod Addresses
pub mod Examples
