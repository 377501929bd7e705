pub mod KeyFrom
pub mod SchemaJson
pub mod SchemasFrom
pub mod ReadValue
