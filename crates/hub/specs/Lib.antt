pub mod Grounds
pub mod Corner
pub mod Calls
pub mod Hub
pub mod Inlinable
pub mod Budget
pub mod Removal
pub mod Preserved
