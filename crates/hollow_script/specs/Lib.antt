pub mod Asked
pub mod Kept
pub mod Orders
pub mod Scripted
pub mod Stopping
