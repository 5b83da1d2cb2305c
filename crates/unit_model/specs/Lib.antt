pub mod ConstantScalars
pub mod Reduced
pub mod UsedInterface
pub mod UsedResults
pub mod Fits
