pub mod Ahead
pub mod Converted
mod Enough
mod Entered
mod Finding
pub mod Listed
mod Named
mod Opened
mod PartsFound
mod Passed
mod PlainLines
mod PlainParts
pub mod Records
mod Typing
mod Whole
