pub mod Answers
pub mod Decorated
pub mod FactsIn
pub mod FirstBad
pub mod Pairs
pub mod Standing
pub mod Tables
