pub mod Asked
pub mod Counted
pub mod Named
pub mod Sought
pub mod Unmoved
