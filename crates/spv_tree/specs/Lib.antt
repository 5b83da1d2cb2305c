pub mod Answers
pub mod Barred
pub mod Listed
pub mod Parts
pub mod Trees
