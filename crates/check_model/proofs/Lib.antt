mod CompositeFaults
mod InterfaceFaults
mod MemoryFaults
mod SampleIntervals
mod ScalarFaults
mod SelectionFaults
mod ValidSamples
pub mod CodeIntervals
pub mod EntryModels
pub mod FaultLaws
pub mod Frames
pub mod NestedIntervals
