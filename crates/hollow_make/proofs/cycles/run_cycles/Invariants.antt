-- The cycles before this one were run.
use Rattle.std.proofs.Common.{◌≤◌}
use Rattle.hollow_make.proofs.Passing.{HasRun}
use Rattle.hollow_make.proofs.cycles.run_cycles.Given as goal

abbrev pub invariant-loop-place : goal.invariant-loop-place
invariant-loop-place g l = record {
  run : HasRun l.seed l.rows (g.S.BlobStore.seen l.initial.store).held l.initial.producer l.place (g.S.BlobStore.seen l.store).held l.producer l.published;
  later : (g.S.BlobStore.seen l.initial.store).faults ≤ (g.S.BlobStore.seen l.store).faults;
}
