pub mod Closing
pub mod FieldValues
pub mod Lives
pub mod LookedAt
pub mod SameRows
pub mod Spelled
pub mod Tables
