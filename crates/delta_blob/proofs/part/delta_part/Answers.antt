use Rattle.std.proofs.Common.{rules, refl}
use Rattle.blob_cursor.proofs.Chain.{reads_then, reads_stops, reads_value}
use Rattle.delta_blob.specs.Parts.{patch_part}
use Rattle.delta_blob.proofs.part.delta_part.Goals as goal

pub returns-in_err-at-clause-reads : goal.returns-in_err-at-clause-reads
unfolding patch_part
returns-in_err-at-clause-reads g c = reads_stops _ c.in_err-at.ensures.reads (search rules)

pub returns-in_err-section-clause-reads : goal.returns-in_err-section-clause-reads
unfolding patch_part
returns-in_err-section-clause-reads g c = reads_then _ c.in_ok-at.ensures.reads (reads_stops _ c.in_err-section.ensures.reads (search rules))

pub returns-clause-reads : goal.returns-clause-reads
unfolding patch_part
returns-clause-reads g c = reads_then _ c.in_ok-at.ensures.reads (reads_then _ c.in_ok-section.ensures.reads (reads_value c.in_ok-section.ensures.reads.over refl))
