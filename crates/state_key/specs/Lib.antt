pub mod AllDeclared
pub mod Distinct
pub mod Keys
pub mod Tidy
pub mod Unpacked
