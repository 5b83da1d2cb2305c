pub mod Changes
pub mod Ends
pub mod PhiPairs
pub mod Renaming
