pub mod Asking
mod Counting
mod Indexing
mod KeyTexts
pub mod KeyWays
mod LiveLists
pub mod Loading
mod LookingUp
mod Naming
mod PastRows
pub mod Reading
mod ShownRows
pub mod Stepping
