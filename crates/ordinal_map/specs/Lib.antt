pub mod Assign
pub mod KeptRows
pub mod Restored
pub mod States
