-- The laws that the answers cite: tests and walks of elements, what they mean by the definition, one alternative, the whole list.
pub mod Items
pub mod Listed
pub mod Meant
pub mod Walks
pub mod Corners
pub mod Judged
pub mod Settled
pub mod Standing
