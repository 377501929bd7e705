pub mod Scene
pub mod Filling
pub mod Starting
pub mod Opened
