-- Lists and rules looked through: members, order, counts.
pub mod Count
pub mod Every
pub mod Lookup
pub mod Mapped
pub mod Flat
pub mod Told
