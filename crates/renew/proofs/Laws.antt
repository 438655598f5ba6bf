-- The laws that the answers cite.
pub mod Words
pub mod Less
pub mod Fewer
pub mod Renewed
