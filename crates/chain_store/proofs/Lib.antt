pub mod Announcing
pub mod Greatest
pub mod Tagged
