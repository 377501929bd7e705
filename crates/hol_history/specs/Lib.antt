pub mod History
pub mod Kept
pub mod Spots
pub mod Steps
pub mod Then
