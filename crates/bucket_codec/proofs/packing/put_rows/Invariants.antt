use Rattle.bucket_codec.proofs.Placed.{IsBegun}
use Rattle.bucket_codec.proofs.packing.put_rows.Given as goal

abbrev pub invariant-loop-place : goal.invariant-loop-place
invariant-loop-place g l = IsBegun l.widths (g.P.PlacedRows.places l.rows) l.fn.first l.fn.second l.first l.second l.place l.end
