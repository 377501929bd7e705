use Rattle.std.proofs.Common.{take}
use Rattle.schema_model.specs.NameIndex.{Indexes}
use Rattle.schema_model.specs.Parts.{type_names}
use Rattle.model_rules.proofs.name_index.index_types.Given as goal

-- the first names are indexed
abbrev pub invariant-loop-type_index : goal.invariant-loop-type_index
invariant-loop-type_index l = Indexes (take l.type_index (type_names l.schemas)) l.index
