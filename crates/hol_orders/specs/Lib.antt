pub mod Kind
pub mod Order
pub mod Parts
pub mod Shapes
pub mod Spelling
pub mod Stops
pub mod Taken
