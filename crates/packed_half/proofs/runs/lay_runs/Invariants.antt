use Rattle.packed_half.proofs.RunsKept.{IsBegun}
use Rattle.type_rows.specs.Layout.{places_of}
use Rattle.packed_half.specs.Laying.{places_in}
use Rattle.packed_half.proofs.runs.lay_runs.Given as goal

abbrev pub invariant-loop-place : goal.invariant-loop-place
invariant-loop-place g l = IsBegun l.half.widths (places_in (g.N.NewRows.rows l.new) (places_of l.half.max)) l.fn.first l.fn.second l.first l.second l.place l.end
