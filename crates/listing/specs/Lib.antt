pub mod Told
pub mod Counts
