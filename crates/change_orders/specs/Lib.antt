pub mod Given
pub mod Keeping
pub mod Keys
pub mod Making
pub mod Reading
