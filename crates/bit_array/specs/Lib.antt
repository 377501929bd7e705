pub mod Element
pub mod Digits
