use Rattle.std.proofs.Common.{◌≡◌, [], map}
use Rattle.std.specs.Prelude.{replicate}
use Rattle.hol_incremental.proofs.counts.Counts.new.Given as goal

abbrev pub invariant-loop-type : goal.invariant-loop-type
invariant-loop-type l = map (λ list. list.items) l.counts.items ≡ replicate l._type []
