pub mod Assembly
pub mod FaultText
pub mod Listing
pub mod Meaning
pub mod ModuleTexts
pub mod Names
pub mod Spelling
