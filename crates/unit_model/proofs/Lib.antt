mod Worked
pub mod FittingDraws
