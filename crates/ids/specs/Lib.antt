pub mod Ids
pub mod Survey
