pub mod Elements
pub mod DigitCounts
pub mod Totals
pub mod Blocks
pub mod SameWords
pub mod Runs
pub mod WordRuns
pub mod ZeroWords
