pub mod Draws
pub mod Modules
pub mod SampleRules
pub mod Scenes
