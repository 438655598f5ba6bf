-- What is proved of writing.
pub mod Wrote
