pub mod Names
pub mod Order
pub mod Walks
pub mod Quiet
pub mod Clash
pub mod Mark
