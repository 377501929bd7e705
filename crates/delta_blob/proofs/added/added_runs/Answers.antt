use Rattle.std.proofs.Common.{rules, refl}
use Rattle.blob_cursor.proofs.Chain.{reads_then, reads_stops, reads_value}
use Rattle.delta_blob.specs.Added.{added_runs}
use Rattle.delta_blob.proofs.AddedItems.{runs_placed, words_as_placed}
use Rattle.delta_blob.proofs.added.added_runs.Goals as goal

pub returns-in_err-widths-clause-reads : goal.returns-in_err-widths-clause-reads
unfolding added_runs
returns-in_err-widths-clause-reads g c = reads_stops _ c.in_err-widths.ensures.reads (search rules)

pub returns-in_err-total-clause-reads : goal.returns-in_err-total-clause-reads
unfolding added_runs
returns-in_err-total-clause-reads g c = reads_then _ c.in_ok-widths.ensures.reads (reads_stops _ c.in_err-total.ensures.reads (search rules))

pub returns-in_err-first-clause-reads : goal.returns-in_err-first-clause-reads
unfolding added_runs
returns-in_err-first-clause-reads g c = reads_then _ c.in_ok-widths.ensures.reads (reads_then _ c.in_ok-total.ensures.reads
    (reads_stops _ (words_as_placed c.args.shape.now c.args.places c.words_for-least.ensures c.as_slice.ensures c.in_err-first.ensures.reads) (search rules)))

pub returns-in_err-second-clause-reads : goal.returns-in_err-second-clause-reads
unfolding added_runs
returns-in_err-second-clause-reads g c =
    let words = words_as_placed c.args.shape.now c.args.places c.words_for-least.ensures c.as_slice.ensures c.in_ok-first.ensures.reads in
    reads_then _ c.in_ok-widths.ensures.reads (reads_then _ c.in_ok-total.ensures.reads (reads_then _ words (reads_stops _ c.in_err-second.ensures.reads (search rules))))

pub returns-clause-reads : goal.returns-clause-reads
unfolding added_runs
returns-clause-reads g c =
    let words = words_as_placed c.args.shape.now c.args.places c.words_for-least.ensures c.as_slice.ensures c.in_ok-first.ensures.reads in
    reads_then _ c.in_ok-widths.ensures.reads (reads_then _ c.in_ok-total.ensures.reads (reads_then _ words
    (reads_then _ c.in_ok-second.ensures.reads (reads_value c.in_ok-second.ensures.reads.over (rw c.new-areas.ensures refl)))))

pub returns-clause-whole : goal.returns-clause-whole
returns-clause-whole g c =
    runs_placed c.args.shape.now c.args.max c.args.places _ c.requires.other c.in_ok-widths.ensures.long c.in_ok-widths.ensures.whole c.words_for-least.ensures c.as_slice.ensures c.in_ok-first.ensures.whole
    c.in_ok-second.ensures.few c.new-areas.ensures
