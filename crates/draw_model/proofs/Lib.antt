pub mod AgreeingDraws
pub mod Assembled
pub mod BoundingBox
pub mod CanonicalDraws
pub mod Entries
pub mod KeptTargets
pub mod Pairs
mod Samples
pub mod StageGiven
mod TopLeft
pub mod Unwritten
mod Worked
pub mod WordDraws
