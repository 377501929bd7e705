use Rattle.std.proofs.Common.{take}
use Rattle.hol_paths.proofs.Places.{ArePlaces}
use Rattle.hol_paths.proofs.reserved.places_of.Given as goal

-- the places of the entries of the rows before this one are there
abbrev pub invariant-loop-ordinal : goal.invariant-loop-ordinal
invariant-loop-ordinal l = ArePlaces l.entries.slots (take l.ordinal-index l.removed) l.places.items
