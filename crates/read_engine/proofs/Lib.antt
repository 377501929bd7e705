mod Answered
mod ConsumerIndexes
mod ConsumerSteps
mod Consumers
mod Counted
mod Exactly
mod Follow
mod FollowWalks
mod LeastSums
mod Left
mod LoadedOnce
mod Loads
mod Patches
mod Places
mod RisingOf
mod SameParts
mod SteppedOnce
mod StepsTold
mod Taken
pub mod TakenOrFault
pub mod Those
mod TypeSteps
mod Walked
