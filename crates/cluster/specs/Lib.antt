pub mod ShortLists
pub mod Orderly
pub mod Transactions
pub mod Executing
pub mod Next
pub mod Rooms
pub mod View
pub mod Runs
