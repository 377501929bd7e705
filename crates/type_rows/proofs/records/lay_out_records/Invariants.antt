use Rattle.std.proofs.Common.{◌≡◌, length}
use Rattle.schema_model.specs.Parts.{shape_fields}
use Rattle.type_rows.proofs.RecordsLaid.{RecordsLaid}
use Rattle.type_rows.proofs.records.lay_out_records.Given as goal

abbrev pub invariant-loop-ordinal : goal.invariant-loop-ordinal
invariant-loop-ordinal l = record {
  laid : RecordsLaid l.shape l.section l.ordinal-index l.lengths.items l.bytes;
  long : length l.lengths.items ≡ length (shape_fields l.shape);
}
