use Rattle.std.proofs.Common.{◌≡◌, ◌++◌, length, take}
use Rattle.std.specs.List.{flat_map}
use Rattle.hol_varint.specs.Varint.{varint_bytes}
use Rattle.schema_model.specs.Schema.{schema_bytes}
use Rattle.blob_frame.specs.Written.{schemas_at}
use Rattle.blob_frame.proofs.writing.push_schemas.Given as goal

abbrev pub invariant-loop-type_index : goal.invariant-loop-type_index
invariant-loop-type_index l =
    l.out.items ≡ varint_bytes (length l.types) ++ flat_map schema_bytes (schemas_at l.model (take l.type_index-index l.indexes))
