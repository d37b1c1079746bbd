pub mod Refusals
pub mod Rows
pub mod Kinds
pub mod Replicated
