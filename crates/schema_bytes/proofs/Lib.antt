pub mod Fronts
pub mod KindNames
pub mod Pieces
pub mod Spellable
pub mod Spellings
