-- What the analysis finds: empty derivation, left corners, cycles.
pub mod Names
pub mod Nullable
pub mod Empty
pub mod Corners
pub mod LeftCorners
pub mod Textbook
pub mod Cycles
pub mod End
pub mod Without
