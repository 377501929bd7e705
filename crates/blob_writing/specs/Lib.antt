pub mod Carried
pub mod Changes
pub mod Delta
pub mod Limits
pub mod Placed
pub mod Plan
pub mod Snapshot
pub mod Written
