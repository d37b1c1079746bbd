pub mod Modes
pub mod Sequencer
