pub mod Memory
pub mod Values
pub mod Allocators
