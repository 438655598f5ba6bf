-- The laws that the answers cite.
pub mod Copy
