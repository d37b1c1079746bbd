pub mod Cut
mod Digits
