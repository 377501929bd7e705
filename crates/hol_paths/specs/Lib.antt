pub mod Distinct
pub mod Groups
pub mod Met
pub mod Packed
pub mod Reached
pub mod Slots
pub mod Walked
