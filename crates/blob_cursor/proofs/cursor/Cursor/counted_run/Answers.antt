use Rattle.std.proofs.Common.{rules}
use Rattle.blob_cursor.proofs.Chain.{reads_then, reads_stops}
use Rattle.blob_frame.specs.Item.{counted_run}
use Rattle.blob_cursor.proofs.cursor.Cursor.counted_run.Goals as goal

pub returns-in_err-count : goal.returns-in_err-count
unfolding counted_run
returns-in_err-count g c = record { reads = reads_stops _ c.in_err-count.ensures.reads (search rules) }

pub returns : goal.returns
unfolding counted_run
returns g c = record { reads = reads_then _ c.in_ok-count.ensures.reads c.run.ensures.reads }
