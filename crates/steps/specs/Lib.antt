pub mod Corner
pub mod Decide
pub mod Step
