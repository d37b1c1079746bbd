pub mod Declarations
pub mod Tickets
