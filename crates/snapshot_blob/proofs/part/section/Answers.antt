use Rattle.std.proofs.Common.{rules, refl}
use Rattle.blob_cursor.proofs.Chain.{reads_then, reads_stops, reads_value}
use Rattle.snapshot_blob.specs.Parts.{section_of}
use Rattle.snapshot_blob.proofs.part.section.Goals as goal

pub returns-in_err-max-clause-reads : goal.returns-in_err-max-clause-reads
unfolding section_of
returns-in_err-max-clause-reads g c = reads_stops _ c.in_err-max.ensures.reads (search rules)

pub returns-in_err-rows-clause-reads : goal.returns-in_err-rows-clause-reads
unfolding section_of
returns-in_err-rows-clause-reads g c = reads_then _ c.in_ok-max.ensures.reads (reads_stops _ c.in_err-rows.ensures.reads (search rules))

pub returns-in_err-live-clause-reads : goal.returns-in_err-live-clause-reads
unfolding section_of
returns-in_err-live-clause-reads g c = reads_then _ c.in_ok-max.ensures.reads (reads_then _ c.in_ok-rows.ensures.reads (reads_stops _ c.in_err-live.ensures.reads (search rules)))

pub returns-clause-reads : goal.returns-clause-reads
unfolding section_of
returns-clause-reads g c = reads_then _ c.in_ok-max.ensures.reads (reads_then _ c.in_ok-rows.ensures.reads (reads_then _ c.in_ok-live.ensures.reads (reads_value c.in_ok-live.ensures.reads.over refl)))
