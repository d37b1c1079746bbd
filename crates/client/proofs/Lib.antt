mod Kept
mod Meets
