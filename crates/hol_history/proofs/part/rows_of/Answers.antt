use Rattle.std.specs.Prelude.{slice_get}
use Rattle.hol_history.proofs.Taken.{rows_more}
use Rattle.hol_history.proofs.part.rows_of.Goals as goal

pub loop-index-preserved : goal.loop-index-preserved
loop-index-preserved g c =
    rows_more (slice_get (g.L.LeftRows.past c.args.before.now) c.args.type_index) c.loop-index.rows c.push.new.self c.loop-index.index c.in_ok-left.field-0 c.loop-index.invariant c.in_ok-left.ensures c.in_ok-push.ensures.ok
