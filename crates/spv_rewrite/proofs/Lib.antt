pub mod BlockEnds
pub mod Fronts
pub mod KeptInsts
mod KeptWords
pub mod Pairs
