mod Exactly
mod FirstPlaces
mod ModelsApart
pub mod OnePlace
mod Passing
mod RowsApart
mod RowsCompared
