use Rattle.std.proofs.Common.{arith, rules}
use Rattle.blob_cursor.proofs.Ahead.{over_start, starts_held}
use Rattle.blob_cursor.proofs.cursor.Cursor.start.Goals as goal

pub returns-clause-over : goal.returns-clause-over
returns-clause-over g c = rw c.size.ensures.kept (over_start (g.S.BlobStore.seen c.args.store.now).held c.args.name.now c.in-Some.size (search rules))

pub returns-clause-starts : goal.returns-clause-starts
returns-clause-starts g c = starts_held (g.S.BlobStore.seen c.args.store.now).held c.args.name.now _ (search rules) (omega arith)
