-- What is proved of the words of the contracts.
pub mod Places
