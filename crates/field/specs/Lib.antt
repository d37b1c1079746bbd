pub mod Pieces
pub mod Decimals
pub mod Letters
pub mod Fields
