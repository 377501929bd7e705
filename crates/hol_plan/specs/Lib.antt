pub mod Start
pub mod Steps
pub mod Walk
pub mod Ways
