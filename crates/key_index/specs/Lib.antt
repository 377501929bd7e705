pub mod Indexed
pub mod SimpleKey
pub mod Slots
