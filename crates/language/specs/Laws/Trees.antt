-- What is proved of trees: when those of two shapes, or in two grammars, pair off one to one.
pub mod Carry
pub mod Replace
pub mod Algebra
pub mod Steps
pub mod Removal
pub mod Derivations
pub mod Turns
pub mod Joined
pub mod Items
pub mod Rules
pub mod Slots
pub mod Told
