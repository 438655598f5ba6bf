-- The laws that the answers cite, each in the shape of the facts that the code has at one of its returns.
pub mod Widening
pub mod Leaves
pub mod Nodes
pub mod Whole
pub mod Read
pub mod Outcome
