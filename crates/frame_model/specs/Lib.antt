pub mod Along
pub mod Componentwise
pub mod Frame
pub mod Shown
pub mod Truths
pub mod ShownWords
pub mod Written
