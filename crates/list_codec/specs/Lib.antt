pub mod ListPlace
pub mod Packing
pub mod Widths
pub mod Elements
pub mod ListRows
