pub mod Overlay
mod Permuted
mod Renumbered
