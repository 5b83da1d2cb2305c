pub mod Tally
pub mod Takes
pub mod ClosedRule
pub mod PlainRule
pub mod LowRule
pub mod Passes
