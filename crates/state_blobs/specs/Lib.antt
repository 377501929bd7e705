pub mod Blobs
pub mod Published
pub mod Puts
