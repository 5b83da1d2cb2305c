pub mod Guarded
pub mod Spans
