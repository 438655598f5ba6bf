pub mod Items
pub mod Walks
pub mod Judge
