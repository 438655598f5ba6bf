-- The laws that the answers cite.
pub mod Bytes
pub mod Read
pub mod Outcome
