use Rattle.std.proofs.Common.{rules, refl}
use Rattle.blob_cursor.proofs.Chain.{reads_then, reads_stops, reads_value}
use Rattle.delta_blob.specs.Parts.{patch_section}
use Rattle.delta_blob.proofs.AddedItems.{placed_well, reads_as_many}
use Rattle.delta_blob.proofs.part.section.Goals as goal

pub returns-in_err-max-clause-reads : goal.returns-in_err-max-clause-reads
unfolding patch_section
returns-in_err-max-clause-reads g c = reads_stops _ c.in_err-max.ensures.reads (search rules)

pub returns-in_err-removed-clause-reads : goal.returns-in_err-removed-clause-reads
unfolding patch_section
returns-in_err-removed-clause-reads g c = reads_then _ c.in_ok-max.ensures.reads (reads_stops _ c.in_err-removed.ensures.reads (search rules))

pub returns-in_err-added-clause-reads : goal.returns-in_err-added-clause-reads
unfolding patch_section
returns-in_err-added-clause-reads g c = reads_then _ c.in_ok-max.ensures.reads (reads_then _ c.in_ok-removed.ensures.reads (reads_stops _ c.in_err-added.ensures.reads (search rules)))

pub returns-in_err-rows-clause-reads : goal.returns-in_err-rows-clause-reads
unfolding patch_section
returns-in_err-rows-clause-reads g c =
    let rows = reads_as_many c.args.shape.now c.in_ok-max.max c.len.ensures c.in_err-rows.ensures.reads in
    reads_then _ c.in_ok-max.ensures.reads (reads_then _ c.in_ok-removed.ensures.reads (reads_then _ c.in_ok-added.ensures.reads (reads_stops _ rows (search rules))))

pub returns-clause-reads : goal.returns-clause-reads
unfolding patch_section
returns-clause-reads g c =
    let rows = reads_as_many c.args.shape.now c.in_ok-max.max c.len.ensures c.in_ok-rows.ensures.reads in
    reads_then _ c.in_ok-max.ensures.reads (reads_then _ c.in_ok-removed.ensures.reads (reads_then _ c.in_ok-added.ensures.reads
    (reads_then _ rows (reads_value rows.over (rw (c.own_bits-own.ensures, c.as_slice.ensures) refl)))))

pub returns-clause-whole : goal.returns-clause-whole
returns-clause-whole g c = placed_well c.args.shape.now c.in_ok-max.max c.len.result c.own_bits-own.result c.in_ok-removed.removed c.in_ok-added.added _ c.len.ensures c.in_ok-rows.ensures.whole
