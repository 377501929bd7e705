pub mod Chain
pub mod Delta
pub mod HoldsChain
pub mod Quiet
pub mod SeenChain
pub mod Snapshot
pub mod States
