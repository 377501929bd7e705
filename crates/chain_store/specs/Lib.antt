pub mod Announced
pub mod Tags
pub mod Versions
