pub mod Changing
pub mod FixedAreas
pub mod MovedPlaces
pub mod MovedRows
pub mod SectionLists
