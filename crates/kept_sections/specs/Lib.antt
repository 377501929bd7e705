pub mod Moved
pub mod Sections
