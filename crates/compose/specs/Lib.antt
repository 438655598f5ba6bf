pub mod Compose
pub mod Hub
pub mod Laws
