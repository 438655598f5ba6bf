-- The laws that the answers cite.
pub mod Judged
pub mod Left
pub mod Sizes
pub mod Done
