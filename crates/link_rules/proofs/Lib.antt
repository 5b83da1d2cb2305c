pub mod Accords
pub mod Lists
