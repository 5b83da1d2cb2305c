pub mod Ascending
pub mod EntryCounts
pub mod InterfacesTold
pub mod Typings
pub mod UsePasses
mod BlockLists
mod ExactAnswers
mod FaultsTold
mod HiddenLists
mod PhiUses
mod TreeLimits
mod OperandsUsed
