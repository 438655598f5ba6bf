pub mod Places
pub mod Options
pub mod Moves
pub mod Splice
