pub mod Closing
pub mod Halves
pub mod Judged
pub mod Moving
pub mod Past
