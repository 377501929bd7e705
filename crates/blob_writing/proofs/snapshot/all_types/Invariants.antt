-- The indexes of the types that were passed.
use Rattle.std.proofs.Common.{◌≡◌}
use Rattle.std.specs.List.{range_with_len}
use Rattle.blob_writing.proofs.snapshot.all_types.Given as goal

abbrev pub invariant-loop-type_index : goal.invariant-loop-type_index
invariant-loop-type_index l = l.types ≡ range_with_len 0 l.type_index
