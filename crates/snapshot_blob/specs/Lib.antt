pub mod Body
pub mod Judged
pub mod Parts
pub mod Snapshot
pub mod Stated
