pub mod Raised
pub mod Corner
pub mod Seeking
pub mod Added
pub mod Decide
pub mod Sizing
pub mod Step
