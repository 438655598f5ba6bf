pub mod Less
pub mod Fewer
pub mod Renewed
