pub mod Front
pub mod Head
pub mod Same
pub mod Laws
