use Rattle.list_codec.proofs.Places.{PackedSoFar}
use Rattle.type_rows.specs.Layout.{places_of}
use Rattle.packed_half.specs.Laying.{places_in}
use Rattle.packed_half.proofs.lists.lay_lists.Given as goal

abbrev pub invariant-loop-place : goal.invariant-loop-place
invariant-loop-place g l = PackedSoFar l.half.widths (places_in (g.N.NewRows.rows l.new) (places_of l.half.max)) l.first l.second l.place l.end
