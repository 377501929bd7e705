use Rattle.std.proofs.Common.{rules, refl}
use Rattle.blob_cursor.proofs.Chain.{reads_then, reads_stops, reads_value}
use Rattle.blob_sections.specs.Section.{packed_records}
use Rattle.blob_sections.proofs.Items.{words_as_needed, reads_field_widths, reads_areas}
use Rattle.blob_sections.proofs.Formed.{records_well}
use Rattle.blob_sections.proofs.section.packed_records.Goals as goal

pub returns-in_err-widths-clause-reads : goal.returns-in_err-widths-clause-reads
unfolding packed_records
returns-in_err-widths-clause-reads g c = reads_stops _ (reads_field_widths c.args.shape.now c.args.max _ c.requires.fields c.in_err-widths.ensures.reads) (search rules)

pub returns-in_err-first-clause-reads : goal.returns-in_err-first-clause-reads
unfolding packed_records
returns-in_err-first-clause-reads g c =
    let widths = reads_field_widths c.args.shape.now c.args.max _ c.requires.fields c.in_ok-widths.ensures.reads in
    reads_then _ widths (reads_stops _ (words_as_needed c.args.shape.now c.args.max c.words_needed-least.ensures c.as_slice.ensures c.in_err-first.ensures.reads) (search rules))

pub returns-in_err-areas-clause-reads : goal.returns-in_err-areas-clause-reads
unfolding packed_records
returns-in_err-areas-clause-reads g c =
    let widths = reads_field_widths c.args.shape.now c.args.max _ c.requires.fields c.in_ok-widths.ensures.reads in
    let words = words_as_needed c.args.shape.now c.args.max c.words_needed-least.ensures c.as_slice.ensures c.in_ok-first.ensures.reads in
    reads_then _ widths (reads_then _ words (reads_stops _ (reads_areas c.args.shape.now _ c.requires.fields c.in_err-areas.ensures.reads) (search rules)))

pub returns-clause-reads : goal.returns-clause-reads
unfolding packed_records
returns-clause-reads g c =
    let widths = reads_field_widths c.args.shape.now c.args.max _ c.requires.fields c.in_ok-widths.ensures.reads in
    let words = words_as_needed c.args.shape.now c.args.max c.words_needed-least.ensures c.as_slice.ensures c.in_ok-first.ensures.reads in
    let areas = reads_areas c.args.shape.now _ c.requires.fields c.in_ok-areas.ensures.reads in
    reads_then _ widths (reads_then _ words (reads_then _ areas (reads_value c.in_ok-areas.ensures.reads.over (rw c.new-second.ensures refl))))

pub returns-clause-whole : goal.returns-clause-whole
returns-clause-whole g c =
    records_well c.args.shape.now c.args.max _ c.requires.object c.requires.fields c.in_ok-widths.ensures.whole c.words_needed-least.ensures c.as_slice.ensures c.in_ok-first.ensures.whole c.new-second.ensures
    c.in_ok-areas.ensures.long
