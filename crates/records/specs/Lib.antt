pub mod Lent
pub mod Step
pub mod Rules
pub mod Laws
