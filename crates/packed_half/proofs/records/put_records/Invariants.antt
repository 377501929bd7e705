use Rattle.object_codec.proofs.PlacesPacked.{PackedSoFar}
use Rattle.type_rows.specs.Layout.{places_of}
use Rattle.packed_half.specs.Laying.{places_in}
use Rattle.packed_half.proofs.records.put_records.Given as goal

abbrev pub invariant-loop-place : goal.invariant-loop-place
invariant-loop-place g l = PackedSoFar l.schema.shape l.half.widths (places_in (g.N.NewRows.rows l.new) (places_of l.half.max)) l.first l.areas l.place
