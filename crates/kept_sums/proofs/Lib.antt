pub mod Most
pub mod Parts
pub mod Reading
pub mod RowParts
pub mod Summing
