pub mod Copies
pub mod RecordBits
pub mod RecordPuts
pub mod Taken
pub mod Copied
pub mod Sources
pub mod StoredRows
pub mod Gaps
mod Shifts
mod WordBytes
mod Parts
mod Offsets
mod Moves
mod Runs
