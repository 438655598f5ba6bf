pub mod Known
pub mod Decision
pub mod Search
pub mod Ground
