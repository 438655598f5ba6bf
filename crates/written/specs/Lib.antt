pub mod Items
pub mod Planned
pub mod Laws
