-- What is proved of the numbers that have a meaning in a sheet, and of words.
pub mod Kinds
pub mod Words
