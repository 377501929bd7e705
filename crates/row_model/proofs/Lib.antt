pub mod NamedTypes
pub mod RowEntries
pub mod RowsFrom
