use Rattle.std.proofs.Common.{arith, ap, Err}
use Rattle.blob_cursor.proofs.Runs.{reads_end, reads_trailing}
use Rattle.blob_cursor.proofs.cursor.Cursor.end.Goals as goal

pub returns-then-left-gt0-clause-reads : goal.returns-then-left-gt0-clause-reads
returns-then-left-gt0-clause-reads g c = reads_trailing c.requires.over (omega (arith, c.left.ensures.value)) (ap Err c.bad.ensures)

pub returns-clause-reads : goal.returns-clause-reads
returns-clause-reads g c = reads_end c.requires.over (omega (arith, c.left.ensures.value))
