pub mod Put
pub mod Text
pub mod Lines
pub mod Walk
pub mod Rules
pub mod Entries
pub mod Whole
pub mod Front
