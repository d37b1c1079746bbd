pub mod Columns
pub mod Refusals
pub mod Calls
pub mod Lines
