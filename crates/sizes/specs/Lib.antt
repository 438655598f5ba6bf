pub mod Tally
pub mod Sized
