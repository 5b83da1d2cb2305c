pub mod Answers
pub mod Bools
pub mod Lists
mod Worked
