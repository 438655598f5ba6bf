pub mod Limits
pub mod Called
pub mod Turns
pub mod Ground
pub mod Stand
pub mod Midway
pub mod Turn
