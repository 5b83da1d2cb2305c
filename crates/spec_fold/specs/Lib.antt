pub mod Sets
pub mod Loops
pub mod Facts
pub mod Walks
pub mod PhiPairs
pub mod Rounds
pub mod Settles
