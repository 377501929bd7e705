pub mod SomeNumbers
pub mod SomeTexts
pub mod SomeCharacters
pub mod DecidedItems
pub mod Judges
