pub mod Held
pub mod Judged
pub mod Left
pub mod Applied
pub mod Laws
