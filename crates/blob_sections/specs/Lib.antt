pub mod Envelope
pub mod Head
pub mod Population
pub mod Section
pub mod Width
