pub mod Left
pub mod Older
pub mod Scanned
pub mod Told
pub mod Valued
