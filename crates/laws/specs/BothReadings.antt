-- The Rust's and the textbook's reading of left corners, side by side.
pub mod Readings
pub mod Later
pub mod Symbols
pub mod SameRun
pub mod Sheets
pub mod Ends
pub mod Without
