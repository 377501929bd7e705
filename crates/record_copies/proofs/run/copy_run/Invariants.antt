use Rattle.std.specs.Prelude.{map}
use Rattle.schema_model.specs.Parts.{shape_fields}
use Rattle.object_codec.specs.Bytes.{bytes_of}
use Rattle.record_copies.proofs.Moves.{MovedSoFar}
use Rattle.record_copies.proofs.run.copy_run.Given as goal

abbrev pub invariant-loop-index : goal.invariant-loop-index
invariant-loop-index l = MovedSoFar (shape_fields l.schema.shape) l.widths l.from.first.now (map bytes_of l.from.areas.now) l.fn.first l.fn.areas l.fn.run l.first l.areas l.index l.before
