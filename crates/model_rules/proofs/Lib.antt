pub mod FirstBroken
pub mod Images
pub mod JavaSizes
pub mod NamedTypes
pub mod ReferenceChains
pub mod RuleTests
