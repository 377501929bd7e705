pub mod Areas
pub mod RowPlaces
pub mod Holding
pub mod PartsJoined
pub mod PlacedLists
pub mod RunsKept
pub mod PlacedRuns
pub mod BytesPut
pub mod PlacedRecords
pub mod Parted
pub mod Looking
pub mod Lookups
pub mod Counts
mod SameMembers
