use Rattle.std.proofs.Common.{◌≡◌, map, take}
use Rattle.hol_paths.specs.Slots.{owner_of}
use Rattle.hol_paths.proofs.entries.owners_at.Given as goal

abbrev pub invariant-loop-place : goal.invariant-loop-place
invariant-loop-place l = l.owners.items ≡ map (owner_of l.slots) (take l.place-index l.places)
