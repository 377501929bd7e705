pub mod KnownTypes
pub mod NamedValues
pub mod ViewClosed
pub mod ViewFits
pub mod ViewOnce
pub mod ViewPlaces
pub mod ViewTwice
pub mod Views
