-- The definitions: what the calls of the stream leave in the station, the run and the buffer that they are lent.
pub mod Calls
