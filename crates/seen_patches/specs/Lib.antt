pub mod ByName
pub mod Elements
pub mod Nulls
pub mod Patch
pub mod Seen
pub mod Spelling
