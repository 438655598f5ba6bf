-- What is proved of drawing planned alternatives.
pub mod Apply
