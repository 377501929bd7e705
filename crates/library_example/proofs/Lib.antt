pub mod LookingUp
pub mod Publishing
