pub mod JavaBytes
pub mod JavaUtf
pub mod TextUnits
pub mod Varint
pub mod Yields
pub mod Zigzag
