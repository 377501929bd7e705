pub mod Item
pub mod SchemaForm
pub mod Header
pub mod Written
