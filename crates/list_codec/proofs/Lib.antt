pub mod ElementRuns
pub mod ListElements
pub mod Written
pub mod CopiedLists
pub mod Places
pub mod OnePacking
