-- The total is the length of the schemas before this one, behind their number.
use Rattle.std.proofs.Common.{◌≡◌}
use Rattle.blob_writing.proofs.ListLength.{length_to}
use Rattle.blob_writing.proofs.header.is_long_list.Given as goal

abbrev pub invariant-loop-type_index : goal.invariant-loop-type_index
invariant-loop-type_index l = l.total ≡ length_to l.model l.types l.type_index-index
