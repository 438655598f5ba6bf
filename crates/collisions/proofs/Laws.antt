-- The laws that the answers cite.
pub mod Few
pub mod Bits
pub mod Find
pub mod Insert
pub mod More
pub mod Entry
pub mod Join
pub mod Names
pub mod Walks
pub mod Items
pub mod Clash
pub mod Mark
pub mod Around
pub mod Quiet
pub mod Silent
pub mod Inlinable
