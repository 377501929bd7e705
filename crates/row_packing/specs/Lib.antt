pub mod Chosen
pub mod Measured
pub mod Packs
pub mod Places
pub mod States
pub mod TypeLimit
pub mod Written
