pub mod Size
pub mod Grown
pub mod Over
pub mod Looking
pub mod Run
pub mod Begin
