mod LastBackEdge
mod ModuleOutcomes
mod UndefinedResults
pub mod BlockRuns
pub mod CodeRuns
pub mod Comings
pub mod EnoughSteps
pub mod Exits
pub mod Flows
pub mod Jumps
pub mod LabelPlaces
pub mod Loops
pub mod StageRuns
pub mod WholeBlocks
pub mod WorkCounts
pub mod WordRuns
pub mod WordValues
