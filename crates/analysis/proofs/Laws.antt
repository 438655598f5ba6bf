-- The laws that the answers cite: what is seen at a leaf, the walk over a body, and what it means by the definition.
pub mod Names
pub mod Seen
pub mod Walks
pub mod Meant
pub mod Standing
pub mod Rounds
pub mod Agree
pub mod Rounded
pub mod Edges
