pub mod Buffer
pub mod Causes
pub mod Lines
pub mod Name
pub mod Store
pub mod Turn
pub mod Window
