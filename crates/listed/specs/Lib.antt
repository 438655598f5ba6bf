pub mod Text
pub mod Listed
pub mod Put
pub mod Walk
pub mod Ready
pub mod Example
