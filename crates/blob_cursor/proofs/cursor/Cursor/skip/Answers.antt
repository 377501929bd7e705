use Rattle.std.proofs.Common.{arith, ap, Err, refl}
use Rattle.blob_cursor.proofs.Chain.{reads_unread}
use Rattle.blob_cursor.proofs.Runs.{reads_cut, reads_skipped}
use Rattle.blob_frame.specs.Item.{skipped}
use Rattle.blob_cursor.proofs.cursor.Cursor.skip.Goals as goal

pub returns-then-left-count-clause-reads : goal.returns-then-left-count-clause-reads
unfolding skipped
returns-then-left-count-clause-reads c = λ seen over. reads_unread _ _ _ (reads_cut c.args.count over (omega (arith, c.left.ensures.value)) refl) (ap Err c.bad.ensures)

pub returns-clause-reads : goal.returns-clause-reads
returns-clause-reads c = λ seen over.
    reads_skipped c.args.count seen c.args.self.now c.jump.new.self over (omega (arith, c.left.ensures.value))
    c.jump.ensures.same.0 c.jump.ensures.same.1 c.jump.ensures.at (c.jump.ensures.over _ over)
