mod Ahead
pub mod Cutting
mod Finding
mod NameKinds
pub mod NameOrder
mod Pieces
mod Texts
pub mod Told
mod Windows
