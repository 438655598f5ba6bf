pub mod Reasons
pub mod Pen
pub mod Copy
pub mod Heads
pub mod Laws
