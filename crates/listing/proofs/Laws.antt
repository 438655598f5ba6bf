pub mod Handed
pub mod Joined
