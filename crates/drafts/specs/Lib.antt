pub mod Draft
pub mod Kept
pub mod Laws
