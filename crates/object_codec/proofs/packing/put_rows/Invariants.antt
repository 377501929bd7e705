use Rattle.object_codec.proofs.PlacesPacked.{PackedSoFar}
use Rattle.object_codec.proofs.packing.put_rows.Given as goal

abbrev pub invariant-loop-place : goal.invariant-loop-place
invariant-loop-place g l = PackedSoFar l.layout.schema.now.shape l.layout.widths.now (g.P.PlacedRows.places l.rows) l.first l.areas l.place
