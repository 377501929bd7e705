pub mod FitsTree
pub mod Rows
pub mod Tree
pub mod Types
