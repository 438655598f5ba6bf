-- The laws that the answers cite, from the bits of words up to the cycles that the definition lists.
pub mod Words
pub mod Rows
pub mod Paths
pub mod Reach
pub mod Filled
pub mod Trim
pub mod Cycles
pub mod Least
pub mod Graph
pub mod Listed
pub mod Given
pub mod Ahead
pub mod Written
