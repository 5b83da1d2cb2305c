pub mod Assembled
pub mod Converse
mod Cuts
mod Digits
mod Fields
pub mod Listings
pub mod Modules
mod Names
mod Numbers
mod Samples
mod SeveralModules
mod Texts
