-- What is proved of drawing.
pub mod Grown
pub mod Drawn
pub mod Renumbered
pub mod Followed
