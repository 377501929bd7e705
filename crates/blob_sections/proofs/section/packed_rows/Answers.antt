use Rattle.std.proofs.Common.{rules}
use Rattle.blob_sections.proofs.Items.{reads_records, reads_runs}
use Rattle.blob_sections.proofs.section.packed_rows.Goals as goal

pub returns-in-Object-clause-reads : goal.returns-in-Object-clause-reads
returns-in-Object-clause-reads g c = reads_records c.args.shape.now c.args.max (search rules) c.packed_records.ensures.reads

pub returns-in-List-clause-reads : goal.returns-in-List-clause-reads
returns-in-List-clause-reads g c = reads_runs c.args.shape.now c.args.max (search rules) c.packed_runs.ensures.reads
