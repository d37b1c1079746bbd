mod Tests
pub mod Marks
pub mod Ops
pub mod Valid
pub mod Cells
pub mod Executed
pub mod Unfinished
pub mod Represents
pub mod Stepped
pub mod Readings
pub mod Checks
pub mod Chosen
pub mod Runs
pub mod CatchingUp
