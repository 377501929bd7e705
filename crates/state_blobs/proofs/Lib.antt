mod Putting
pub mod Tags
mod Writing
