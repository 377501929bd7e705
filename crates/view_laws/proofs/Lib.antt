pub mod NamedItems
pub mod SeenDeltas
pub mod SeenMaps
pub mod SeenRecords
pub mod SeenSteps
