-- The laws that the answers cite, each in the shape of the facts that the code has at one of its returns.
pub mod Halves
pub mod Reading
pub mod Written
pub mod Settling
pub mod Hand
pub mod Placed
pub mod Absent
pub mod Present
pub mod Split
