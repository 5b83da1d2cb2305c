pub mod Libs
pub mod Single
pub mod Parts
