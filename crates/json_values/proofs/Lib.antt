pub mod ItemLists
pub mod SchemaShapes
pub mod Refusals
pub mod OneSchemaList
pub mod ReadingEach
pub mod KeyParts
