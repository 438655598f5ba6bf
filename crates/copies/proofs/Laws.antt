-- The laws that the answers cite, each in the shape of the facts that the code has at one of its returns.
pub mod Pen
pub mod Copying
pub mod Heads
pub mod Leaves
pub mod Rooms
pub mod Elements
pub mod Alternatives
pub mod Taken
