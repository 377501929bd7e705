mod AddingRecords
mod AheadRecords
pub mod Cycling
mod FilmRecords
mod Growing
pub mod KnownTypes
pub mod Makings
mod Modelling
mod Naming
pub mod Placed
