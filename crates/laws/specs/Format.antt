-- The format of a sheet, as Demands tells it.
pub mod Told
pub mod Calls
pub mod Wide
