-- The tests of a model as they are tried in a blob, and the first type that fails.
use Rattle.std.specs.Prelude.{◌<◌, ℕ, List}
use Rattle.schema_model.specs.declared.model.rule.Rule.{Rule}
use Rattle.schema_model.specs.declared.model.rule.Rule.TheVariants.{DuplicateName, UnknownType, TooDeep, BadPath}
use Rattle.schema_model.specs.declared.schema.Schema.{Schema}
use Rattle.schema_model.specs.Model.{IsFirstBreaking, IsKept, rule_place}

-- The tests: that no name stands twice; that each type which is named is there; that no type is more than 32 types deep, as each is whose
-- references lead into a cycle, since chains of every length begin at it; and that each primary key has a path, and its paths resolve. The other
-- rules of models are kept in all that can be read.
abbrev pub IsTest : Rule → Type 0
IsTest DuplicateName = Unit {0}
IsTest UnknownType = Unit {0}
IsTest TooDeep = Unit {0}
IsTest BadPath = Unit {0}
IsTest _ = ⊥

-- This is the first type that fails the first test that some type fails.
pub record IsFirstFailing (schemas : List Schema) (t : ℕ) : Type 0 where
  pub rule : Rule
  pub is_test : IsTest rule
  pub earlier : (before : Rule) → IsTest before → rule_place before < rule_place rule → IsKept schemas before
  pub first : IsFirstBreaking schemas rule t
