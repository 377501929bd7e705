pub mod Half
pub mod LaidOut
pub mod Laying
pub mod Lookup
