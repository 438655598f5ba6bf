-- What is proved of derivation: when two grammars, or two shapes, derive the same strings.
pub mod Cover
pub mod Algebra
pub mod Steps
pub mod TreeSteps
pub mod Quantifier
pub mod Copies
pub mod Removal
pub mod Empty
pub mod Marks
pub mod Corner
pub mod Elements
pub mod Rules
pub mod Trees
