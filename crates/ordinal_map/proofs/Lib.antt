pub mod Dropping
pub mod Freeing
pub mod Keeping
pub mod Placing
pub mod Puts
pub mod Restoring
pub mod SetRows
