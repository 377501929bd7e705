pub mod BrokenRules
pub mod Indexing
pub mod ModelFacts
pub mod SameLists
pub mod Ways
