pub mod Families
pub mod Words
pub mod Machine
pub mod Ledger
pub mod Serial
pub mod Examples
pub mod FamiliesLemmas
