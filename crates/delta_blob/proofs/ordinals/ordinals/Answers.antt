use Rattle.std.proofs.Common.{rules}
use Rattle.blob_cursor.proofs.Chain.{reads_then, reads_stops}
use Rattle.delta_blob.specs.Ordinals.{ordinals}
use Rattle.delta_blob.proofs.ordinals.ordinals.Goals as goal

pub returns-in_err-count-clause-reads : goal.returns-in_err-count-clause-reads
unfolding ordinals
returns-in_err-count-clause-reads g c = reads_stops _ c.in_err-count.ensures.reads (search rules)

pub returns-clause-reads : goal.returns-clause-reads
unfolding ordinals
returns-clause-reads g c = reads_then _ c.in_ok-count.ensures.reads c.gap_run.ensures.reads
