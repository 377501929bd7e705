-- The fields before this one are written, behind what stood there.
use Rattle.std.proofs.Common.{◌≡◌, ◌++◌, take, flat_map}
use Rattle.schema_model.specs.Schema.{field_bytes}
use Rattle.schema_bytes.proofs.put.push_fields.Given as goal

abbrev pub invariant-loop-field : goal.invariant-loop-field
invariant-loop-field l = l.out.items ≡ l.initial.out.items ++ flat_map field_bytes (take l.field-index l.field-items)
