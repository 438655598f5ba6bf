pub mod Form
pub mod Kinds
pub mod Laws
pub mod Refusal
pub mod Room
pub mod Sheet
pub mod Visit
pub mod Words
