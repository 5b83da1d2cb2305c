pub mod Ends
pub mod Sources
pub mod Sinks
pub mod StdEnds
