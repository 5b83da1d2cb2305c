mod Constants
mod OpcodeRows
pub mod ReadModules
pub mod Samples
