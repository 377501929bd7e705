pub mod Next
pub mod Taken
