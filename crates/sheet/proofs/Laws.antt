-- The laws that the answers cite, each in the shape of the facts that the code has at one of its returns.
pub mod Judge
pub mod Trailer
pub mod Front
pub mod Answer
pub mod Lent
pub mod Sizes
