use Rattle.type_state.proofs.TightPlaces.{one_more}
use Rattle.type_state.proofs.tight.are_runs_tight.Goals as goal

pub loop-place-preserved : goal.loop-place-preserved
loop-place-preserved c = one_more c.args.shape.now c.args.section.now c.args.total c.loop-place.place c.loop-place.invariant (c.is_tight_at.ensures c.if-not-is_tight_at.false)
