use Rattle.std.proofs.Common.{sym, ◌∙◌}
use Rattle.packed_half.proofs.Parted.{cut_zeros}
use Rattle.type_state.specs.Differences.{rows_with}
use Rattle.type_state.specs.KeptRecords.{kept_rows}
use Rattle.type_state.proofs.PartCounts.{item_count_is, place_count_is}
use Rattle.type_state.proofs.KeptRuns.{bytes_room, fields_empty, half_by_runs, written_over}
use Rattle.type_state.proofs.kept_runs.lay_by_runs.Goals as goal

pub put_places-requires-clause-zeros : goal.put_places-requires-clause-zeros
put_places-requires-clause-zeros c =
    let shape = c.args.schema.now.shape in
    let half = c.args.next.now.half in
    let widths = c.as_slice-widths in
    let parts = cut_zeros shape half c.args.words.now c.split_at_mut-first.result.0.now c.split_at_mut-first.result.1.now c.split_at_mut-second.result.0.now c.split_at_mut-second.result.1.now
    c.words_needed-places.result c.fixed_words-items.result c.requires.zeros (place_count_is shape half widths.result.now c.words_needed-places.result widths.ensures c.words_needed-places.ensures)
    (item_count_is shape half widths.result.now c.fixed_words-items.result widths.ensures c.fixed_words-items.ensures)
    c.split_at_mut-first.ensures.front c.split_at_mut-first.ensures.back c.split_at_mut-second.ensures.front c.split_at_mut-second.ensures.back in
    parts.first_zeros

pub put_places-requires-clause-none : goal.put_places-requires-clause-none
put_places-requires-clause-none c =
    fields_empty c.args.schema.now.shape c.args.next.now.half (rows_with (kept_rows c.args.kept) c.args.next.now.differences) c.as_slice.result.now c.as_mut_slice.result.now c.requires.can c.as_slice.ensures
    (c.as_mut_slice.ensures.value ∙ c.in_ok-areas.ensures)

pub put_areas-requires : goal.put_areas-requires
put_areas-requires c =
    let shape = c.args.schema.now.shape in
    let half = c.args.next.now.half in
    let widths = c.as_slice-widths in
    let rows = rows_with (kept_rows c.args.kept) c.args.next.now.differences in
    let parts = cut_zeros shape half c.args.words.now c.split_at_mut-first.result.0.now c.split_at_mut-first.result.1.now c.split_at_mut-second.result.0.now c.split_at_mut-second.result.1.now
    c.words_needed-places.result c.fixed_words-items.result c.requires.zeros (place_count_is shape half widths.result.now c.words_needed-places.result widths.ensures c.words_needed-places.ensures)
    (item_count_is shape half widths.result.now c.fixed_words-items.result widths.ensures c.fixed_words-items.ensures)
    c.split_at_mut-first.ensures.front c.split_at_mut-first.ensures.back c.split_at_mut-second.ensures.front c.split_at_mut-second.ensures.back in
    let same = written_over c.as_slice-2.result.now c.put_places.new.areas _ _ c.as_slice-2.ensures.value (sym (c.put_places.auto.areas ∙ c.as_mut_slice.ensures.len)) in
    bytes_room shape half rows c.split_at_mut-first.result.0.now c.split_at_mut-second.result.0.now c.split_at_mut-second.result.1.now c.put_places.new.first c.as_slice-2.result.now c.put_places.new.areas
    c.requires.can parts same c.in_ok-put_places.ensures

pub returns : goal.returns
returns c =
    let shape = c.args.schema.now.shape in
    let half = c.args.next.now.half in
    let widths = c.as_slice-widths in
    let rows = rows_with (kept_rows c.args.kept) c.args.next.now.differences in
    let parts = cut_zeros shape half c.args.words.now c.split_at_mut-first.result.0.now c.split_at_mut-first.result.1.now c.split_at_mut-second.result.0.now c.split_at_mut-second.result.1.now
    c.words_needed-places.result c.fixed_words-items.result c.requires.zeros (place_count_is shape half widths.result.now c.words_needed-places.result widths.ensures c.words_needed-places.ensures)
    (item_count_is shape half widths.result.now c.fixed_words-items.result widths.ensures c.fixed_words-items.ensures)
    c.split_at_mut-first.ensures.front c.split_at_mut-first.ensures.back c.split_at_mut-second.ensures.front c.split_at_mut-second.ensures.back in
    let same = written_over c.as_slice-2.result.now c.put_places.new.areas _ _ c.as_slice-2.ensures.value (sym (c.put_places.auto.areas ∙ c.as_mut_slice.ensures.len)) in
    half_by_runs shape half rows c.split_at_mut-first.result.0.now c.split_at_mut-second.result.0.now c.split_at_mut-second.result.1.now c.put_places.new.first c.put_areas.new.words c.as_slice-2.result.now c.put_places.new.areas
    c.requires.copies.object c.requires.can parts c.put_places.auto.first c.put_areas.auto.words same c.in_ok-put_places.ensures c.put_areas.ensures
