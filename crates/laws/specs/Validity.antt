-- The result of a run is a valid tree that fits a sheet.
pub mod Names
pub mod Kept
pub mod Wordy
pub mod Fits
pub mod Parts
pub mod Sound
pub mod Result
