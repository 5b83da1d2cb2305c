pub mod Answers
pub mod Modules
pub mod Names
pub mod Parts
pub mod Pieces
pub mod Steps
