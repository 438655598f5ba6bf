pub mod Wrote
pub mod Taken
pub mod Laws
