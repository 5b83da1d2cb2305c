mod ClassRows
mod ScalarRows
pub mod WordResults
