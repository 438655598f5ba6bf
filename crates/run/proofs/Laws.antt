-- The laws that the answers cite.
pub mod Known
pub mod Over
pub mod More
pub mod Start
pub mod Loop
pub mod Turned
