pub mod Shape
pub mod Derive
pub mod Readings
pub mod LeftCorners
pub mod Cycles
pub mod Laws
