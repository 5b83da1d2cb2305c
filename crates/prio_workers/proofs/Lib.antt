pub mod Places
pub mod ClosedSteps
pub mod PlainSteps
pub mod LowSteps
