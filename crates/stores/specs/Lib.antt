pub mod Held
pub mod Changes
