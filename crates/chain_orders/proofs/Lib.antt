pub mod Checking
pub mod Restoring
