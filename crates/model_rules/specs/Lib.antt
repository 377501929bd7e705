pub mod RuleTests
