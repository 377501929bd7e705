pub mod Twin
pub mod Lending
pub mod Ownership
pub mod Deeds
pub mod BlockLends
pub mod Halves
pub mod HalfLends
