use Rattle.list_codec.proofs.Places.{PackedSoFar}
use Rattle.list_codec.proofs.packing.pack_words.Given as goal

abbrev pub invariant-loop-place : goal.invariant-loop-place
invariant-loop-place g l = PackedSoFar l.widths (g.P.PlacedRows.places l.rows) l.first.items l.second.items l.place l.end
