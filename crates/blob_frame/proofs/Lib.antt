pub mod Listing
pub mod Spelling
pub mod SpelledSchemas
