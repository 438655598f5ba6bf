pub mod Run
pub mod Size
pub mod Over
