use Rattle.std.proofs.Common.{◌≡◌, []}
use Rattle.std.specs.Prelude.{replicate}
use Rattle.type_state.proofs.old_copies.no_bytes.Given as goal

abbrev pub invariant-loop : goal.invariant-loop
invariant-loop l = l.areas.items ≡ replicate l.counter []
