use Rattle.std.proofs.Common.{◌≡◌, ◌+◌, length, drop}
use Rattle.list_codec.specs.Packing.{elements_of_places}
use Rattle.list_codec.proofs.packing.count_of.Given as goal

abbrev pub invariant-loop-place : goal.invariant-loop-place
invariant-loop-place g l = l.count + length (elements_of_places (drop l.place (g.P.PlacedRows.places l.rows))) ≡ length (elements_of_places (g.P.PlacedRows.places l.rows))
