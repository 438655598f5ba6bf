pub mod Ended
pub mod Midst
pub mod Turn
