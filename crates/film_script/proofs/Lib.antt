pub mod FilmModel
pub mod Ranges
