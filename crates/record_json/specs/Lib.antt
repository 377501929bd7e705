pub mod Forms
pub mod InRange
pub mod KeysApart
pub mod NamesApart
pub mod PrintTree
pub mod Printing
pub mod ReadTree
