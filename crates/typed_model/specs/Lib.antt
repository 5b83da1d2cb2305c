pub mod Effects
pub mod Judgement
pub mod Jumps
pub mod Modules
pub mod Results
pub mod Running
pub mod Types
pub mod Values
