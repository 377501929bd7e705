pub mod Asked
pub mod Ends
pub mod Growing
pub mod Making
pub mod Parts
