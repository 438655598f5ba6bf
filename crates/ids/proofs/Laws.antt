-- The laws that the answers cite, each in the shape of the facts that the code has at one of its returns.
pub mod Lists
pub mod Sorted
pub mod Ids
pub mod Seeing
pub mod Track
pub mod Survey
pub mod NoSort
