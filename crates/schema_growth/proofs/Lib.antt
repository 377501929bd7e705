pub mod Growing
pub mod Growths
