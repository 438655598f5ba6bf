-- Sets as lists, rounds, reach and cycles, and the entries of a trail, as the definition has them: laws that say nothing of derivation.
pub mod Members
pub mod Order
pub mod Fixpoint
pub mod Reach
pub mod Cycles
pub mod Entries
