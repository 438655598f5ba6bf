-- The laws that the answers cite.
pub mod Last
pub mod Made
pub mod With
pub mod Cycles
pub mod Search
pub mod Ground
