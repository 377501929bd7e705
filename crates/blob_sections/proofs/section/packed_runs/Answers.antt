use Rattle.std.proofs.Common.{rules, refl}
use Rattle.blob_cursor.proofs.Chain.{reads_then, reads_stops, reads_value}
use Rattle.blob_sections.specs.Section.{packed_runs}
use Rattle.blob_sections.proofs.Items.{words_as_needed}
use Rattle.blob_sections.proofs.Formed.{runs_well}
use Rattle.blob_sections.proofs.section.packed_runs.Goals as goal

pub returns-in_err-widths-clause-reads : goal.returns-in_err-widths-clause-reads
unfolding packed_runs
returns-in_err-widths-clause-reads g c = reads_stops _ c.in_err-widths.ensures.reads (search rules)

pub returns-in_err-total-clause-reads : goal.returns-in_err-total-clause-reads
unfolding packed_runs
returns-in_err-total-clause-reads g c = reads_then _ c.in_ok-widths.ensures.reads (reads_stops _ c.in_err-total.ensures.reads (search rules))

pub returns-in_err-first-clause-reads : goal.returns-in_err-first-clause-reads
unfolding packed_runs
returns-in_err-first-clause-reads g c = reads_then _ c.in_ok-widths.ensures.reads (reads_then _ c.in_ok-total.ensures.reads
    (reads_stops _ (words_as_needed c.args.shape.now c.args.max c.words_needed-least.ensures c.as_slice.ensures c.in_err-first.ensures.reads) (search rules)))

pub returns-in_err-second-clause-reads : goal.returns-in_err-second-clause-reads
unfolding packed_runs
returns-in_err-second-clause-reads g c =
    let words = words_as_needed c.args.shape.now c.args.max c.words_needed-least.ensures c.as_slice.ensures c.in_ok-first.ensures.reads in
    reads_then _ c.in_ok-widths.ensures.reads (reads_then _ c.in_ok-total.ensures.reads (reads_then _ words (reads_stops _ c.in_err-second.ensures.reads (search rules))))

pub returns-clause-reads : goal.returns-clause-reads
unfolding packed_runs
returns-clause-reads g c =
    let words = words_as_needed c.args.shape.now c.args.max c.words_needed-least.ensures c.as_slice.ensures c.in_ok-first.ensures.reads in
    reads_then _ c.in_ok-widths.ensures.reads (reads_then _ c.in_ok-total.ensures.reads (reads_then _ words
    (reads_then _ c.in_ok-second.ensures.reads (reads_value c.in_ok-second.ensures.reads.over (rw c.new-areas.ensures refl)))))

pub returns-clause-whole : goal.returns-clause-whole
returns-clause-whole g c =
    runs_well c.args.shape.now c.args.max _ c.requires.other c.in_ok-widths.ensures.long c.in_ok-widths.ensures.whole c.words_needed-least.ensures c.as_slice.ensures c.in_ok-first.ensures.whole
    c.in_ok-second.ensures.few c.new-areas.ensures
