pub mod DecidedWalks
mod MovedHalves
mod MovedOnce
mod Passing
pub mod Positions
mod RowRanges
mod SeenFields
mod SettledDelta
pub mod SettledSteps
mod SteppedParts
mod Stepping
pub mod Typing
