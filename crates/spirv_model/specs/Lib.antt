pub mod Module
pub mod Operands
