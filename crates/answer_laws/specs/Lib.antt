pub mod Answered
pub mod Limits
pub mod Ranges
pub mod Scripts
pub mod Shown
pub mod Storable
