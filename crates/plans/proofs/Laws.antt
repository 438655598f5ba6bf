-- The laws that the answers cite.
pub mod Ground
pub mod Nth
pub mod First
pub mod Told
