pub mod Widened
pub mod Newest
pub mod Converted
