mod Halting
pub mod Lining
mod Looking
mod Ordering
mod Asking
mod Replying
mod Answering
pub mod Keeping
