-- What is proved of the codec.
pub mod Words
pub mod Stands
pub mod Parse
pub mod Label
pub mod Sound
pub mod Complete
pub mod One
pub mod Opened
pub mod Found
pub mod Fold
pub mod Whole
pub mod Codec
pub mod Lists
pub mod Few
pub mod Trailer
pub mod Convert
