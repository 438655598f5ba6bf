pub mod Corners
pub mod Names
pub mod Survey
pub mod Facts
pub mod Rounds
pub mod One
