pub mod Nth
pub mod First
pub mod Told
