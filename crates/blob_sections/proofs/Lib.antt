pub mod Each
pub mod Formed
pub mod GapJudge
pub mod Heads
pub mod Items
