pub mod Leads
pub mod Typed
