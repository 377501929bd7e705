use Rattle.std.proofs.Common.{take}
use Rattle.schema_model.specs.NameIndex.{Indexes}
use Rattle.schema_model.specs.Parts.{field_names}
use Rattle.seen_patches.proofs.named_fields.NamedFields.new.Given as goal

-- the first names are indexed
abbrev pub invariant-loop-place : goal.invariant-loop-place
invariant-loop-place l = Indexes (take l.place (field_names l.fields)) l.places
