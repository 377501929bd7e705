use Rattle.std.proofs.Common.{subst, sym}
use Rattle.ordinal_set.proofs.GapRuns.{ReadSoFar, read_none, read_more}
use Rattle.ordinal_set.proofs.gaps.all_gaps.Goals as goal

pub loop-place-init : goal.loop-place-init
loop-place-init c = subst (ReadSoFar c.args.bytes.now 0 0) (sym c.new-list.ensures) (read_none c.args.bytes.now)

pub loop-place-preserved : goal.loop-place-preserved
loop-place-preserved c =
    rw (c.in_ok-push.ensures.ok, c.from-number.ensures)
    (read_more c.args.bytes.now c.loop-place.place c.loop-place.number c.in-Ok.gap c.in-Ok.next c.loop-place.list c.loop-place.invariant c.in-Ok.ensures.tells)
