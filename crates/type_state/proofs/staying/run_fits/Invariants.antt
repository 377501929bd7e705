use Rattle.std.proofs.Common.{ℕ, ◌<◌, ◌≤◌}
use Rattle.type_state.specs.Staying.{FitsUnder}
use Rattle.type_state.proofs.staying.run_fits.Given as goal

abbrev pub invariant-loop-ordinal : goal.invariant-loop-ordinal
invariant-loop-ordinal l = (o : ℕ) → l.from ≤ o → o < l.ordinal → FitsUnder l.rows.rows l.field l.width o
