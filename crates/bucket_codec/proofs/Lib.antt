pub mod BucketCounts
pub mod Places
pub mod Members
pub mod RunBuckets
mod Sorted
mod Streaks
mod LookUps
pub mod TakenBuckets
mod KeysOnce
mod FoundKeys
mod Spelled
mod Filling
mod Inserts
mod Writing
mod Behind
mod Clearing
pub mod CopiedRuns
mod Fills
mod Rows
pub mod Placed
pub mod PlaceRows
pub mod PlaceTests
mod OnePacking
