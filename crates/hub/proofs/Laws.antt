-- The laws that the answers cite.
pub mod Lists
pub mod Rounds
pub mod Corner
pub mod Able
pub mod Calls
pub mod Grounds
pub mod Hub
pub mod Inlinable
pub mod Budget
pub mod Cycle
pub mod Removal
pub mod Preserved
