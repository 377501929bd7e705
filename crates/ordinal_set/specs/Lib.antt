pub mod Ordinals
pub mod Population
pub mod Gaps
