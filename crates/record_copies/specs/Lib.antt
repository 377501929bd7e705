pub mod Element
pub mod Fixed
pub mod Parts
pub mod Column
pub mod Run
