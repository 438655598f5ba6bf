-- What is proved of a draft.
pub mod Draft
pub mod Kept
