pub mod Closed
pub mod Columns
pub mod Content
pub mod Items
pub mod Looked
pub mod OneType
pub mod Same
