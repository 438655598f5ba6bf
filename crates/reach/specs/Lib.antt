pub mod Rows
pub mod Reach
pub mod Steps
pub mod Cycles
pub mod Listed
