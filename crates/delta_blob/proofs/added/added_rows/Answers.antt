use Rattle.std.proofs.Common.{rules}
use Rattle.delta_blob.proofs.AddedItems.{reads_added_records, reads_added_runs}
use Rattle.delta_blob.proofs.added.added_rows.Goals as goal

pub returns-in-Object-clause-reads : goal.returns-in-Object-clause-reads
returns-in-Object-clause-reads g c = reads_added_records c.args.shape.now c.args.max c.args.places (search rules) c.added_records.ensures.reads

pub returns-in-List-clause-reads : goal.returns-in-List-clause-reads
returns-in-List-clause-reads g c = reads_added_runs c.args.shape.now c.args.max c.args.places (search rules) c.added_runs.ensures.reads
