pub mod Danglings
