-- The definitions: the next line of an input, as far as the bytes at hand say it.
pub mod Feeds
