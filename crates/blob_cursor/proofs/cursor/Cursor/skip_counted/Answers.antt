use Rattle.std.proofs.Common.{subst}
use Rattle.blob_frame.specs.Item.{skipped}
use Rattle.blob_cursor.specs.Scene.{Reads, scene}
use Rattle.blob_cursor.proofs.cursor.Cursor.skip_counted.Goals as goal

pub returns-clause-reads : goal.returns-clause-reads
returns-clause-reads c = λ seen over. subst (λ n. Reads (skipped n) (scene seen c.args.self.now) (scene seen c.skip.new.self) c.skip.result) c.from.ensures (c.skip.ensures.reads seen over)
