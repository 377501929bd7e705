pub mod Decided
pub mod Deciding
pub mod Form
pub mod Words
