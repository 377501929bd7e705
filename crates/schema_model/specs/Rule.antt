-- The names of the rules of a model, as an answer line gives them.
use Rattle.std.specs.Prelude.{List, ℕ, codes}
use Rattle.schema_model.specs.declared.model.rule.Rule.{Rule}
use Rattle.schema_model.specs.declared.model.rule.Rule.TheVariants.{TooMany, LongName, DuplicateName, FloatField, UnknownType, CyclicModel, TooDeep, BadPath}

abbrev pub name_of_rule : Rule → List ℕ
name_of_rule TooMany = codes "TooMany"
name_of_rule LongName = codes "LongName"
name_of_rule DuplicateName = codes "DuplicateName"
name_of_rule FloatField = codes "FloatField"
name_of_rule UnknownType = codes "UnknownType"
name_of_rule CyclicModel = codes "CyclicModel"
name_of_rule TooDeep = codes "TooDeep"
name_of_rule BadPath = codes "BadPath"
