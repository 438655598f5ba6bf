-- What is proved of the grammar that a plan leaves.
pub mod After
pub mod Stays
