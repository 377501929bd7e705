use Rattle.std.proofs.Common.{rules, refl}
use Rattle.blob_cursor.proofs.Chain.{reads_then, reads_stops, reads_nothing}
use Rattle.blob_cursor.proofs.Counting.{reads_counted, reads_uncounted}
use Rattle.snapshot_blob.specs.Parts.{type_part, body}
use Rattle.snapshot_blob.proofs.part.body.Goals as goal

pub returns-in_err-count-clause-reads : goal.returns-in_err-count-clause-reads
unfolding body
returns-in_err-count-clause-reads g c = reads_stops _ (reads_uncounted type_part c.in_err-count.ensures.reads refl) (search rules)

pub returns-in_err-parts-clause-reads : goal.returns-in_err-parts-clause-reads
unfolding body
returns-in_err-parts-clause-reads g c = reads_stops _ (reads_counted type_part c.in_ok-count.ensures.reads refl c.in_err-parts.ensures.reads) (search rules)

pub returns-in_err-end-clause-reads : goal.returns-in_err-end-clause-reads
unfolding body
returns-in_err-end-clause-reads g c =
    reads_then _ (reads_counted type_part c.in_ok-count.ensures.reads refl c.in_ok-parts.ensures.reads) (reads_stops _ c.in_err-end.ensures.reads (search rules))

pub returns-clause-reads : goal.returns-clause-reads
unfolding body
returns-clause-reads g c =
    reads_then _ (reads_counted type_part c.in_ok-count.ensures.reads refl c.in_ok-parts.ensures.reads)
    (reads_then _ c.in_ok-end.ensures.reads (reads_nothing c.in_ok-end.ensures.reads.over))
