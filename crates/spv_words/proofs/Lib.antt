pub mod Classes
pub mod Entries
pub mod IdLists
pub mod Passing
pub mod RowNumbers
pub mod WordCuts
pub mod Written
