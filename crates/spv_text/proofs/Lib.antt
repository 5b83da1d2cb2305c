pub mod Assembling
pub mod Entries
pub mod FieldTexts
pub mod Fitting
pub mod NameTables
pub mod SplitParts
pub mod Strings
