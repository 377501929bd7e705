pub mod Arms
pub mod Deciding
pub mod Passing
