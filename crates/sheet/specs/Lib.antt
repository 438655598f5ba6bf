pub mod Answer
pub mod Verdict
pub mod Sizes
pub mod Read
