pub mod ClosedPast
pub mod LinePuts
pub mod Refusals
pub mod Scripts
