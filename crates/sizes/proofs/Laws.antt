-- The laws that the answers cite.
pub mod Counting
pub mod Renumber
pub mod Lengths
pub mod Sums
pub mod Elements
pub mod Settled
