-- The two wordings of what a grammar derives agree; and strings that small grammars derive or do not.
pub mod Called
pub mod Steps
pub mod Into
pub mod From
pub mod Same
pub mod Could
pub mod Strings
pub mod Unseen
pub mod Empty
pub mod Corners
pub mod Counting
pub mod Counted
