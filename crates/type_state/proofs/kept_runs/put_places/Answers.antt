use Rattle.std.proofs.Common.{◌+◌, ℕ, List, ap, arith, map, subst, sym, ◌∙◌}
use Rattle.std.specs.Prelude.{sum}
use Rattle.object_codec.specs.Bytes.{bytes_of}
use Rattle.type_state.specs.Differences.{coming_at, rows_with}
use Rattle.type_state.specs.KeptRecords.{kept_rows}
use Rattle.type_state.specs.LeftDifferences.{behind}
use Rattle.type_state.proofs.KeptRuns.{WrittenSoFar, kept_small, record_small, room_for_kept, room_for_row, room_for_run, row_there, run_stands, written_all, written_kept, written_none, written_row, written_run}
use Rattle.type_state.proofs.kept_runs.put_places.Goals as goal

pub overflow_cast-size : goal.overflow_cast-size
overflow_cast-size c =
    let few = record_small c.args.schema.now.shape c.args.next.now.half (rows_with (kept_rows c.args.kept) c.args.next.now.differences) c.requires.copies.object c.requires.can in
    omega (arith, few, c.total_width-size.ensures.total, ap (λ (widths : List ℕ). sum widths) c.as_slice-widths.ensures)

pub overflow_cast-size_there : goal.overflow_cast-size_there
overflow_cast-size_there c =
    let kept = c.args.kept in
    let few = kept_small kept.shape.now c.args.schema.now.shape kept.half.now kept.words.now c.requires.shape c.requires.copies.object c.requires.kept.half c.requires.copies.places in
    omega (arith, few, c.total_width-size_there.ensures.total, ap (λ (widths : List ℕ). sum widths) c.as_slice-widths_there.ensures)

pub loop-place-init : goal.loop-place-init
loop-place-init c =
    written_none c.args.schema.now.shape c.args.next.now.half (kept_rows c.args.kept) c.args.next.now.differences c.as_slice-removed.result.now c.as_slice-added.result.now c.args.first.now c.args.areas.now
    c.requires.copies.object c.requires.can c.requires.apart c.as_slice-removed.ensures c.as_slice-added.ensures c.requires.zeros c.requires.none

pub copy_run-requires : goal.copy_run-requires
copy_run-requires c =
    let shape = c.args.schema.now.shape in
    let half = c.args.next.now.half in
    let kept = c.args.kept in
    let widths = c.as_slice-widths.ensures in
    let place = c.loop-place.place in
    let end = c.min-end.result in (
      kept_rows kept,
      run_stands kept.shape.now shape kept.half.now kept.words.now c.as_slice-widths.result.now kept.records.first.now (map bytes_of kept.records.areas.now) end c.requires.shape (c.are_same-alike.ensures.0 c.if-alike.true ∙ c.as_slice-widths_there.ensures)
          c.requires.kept.first c.requires.kept.bytes c.requires.copies.object c.requires.kept.half c.requires.copies.places (omega arith),
      room_for_run shape half (kept_rows kept) c.args.next.now.differences c.loop-place.removed.now c.loop-place.added.now c.as_slice-widths.result.now c.loop-place.first c.loop-place.areas place end
          c.requires.copies.object c.requires.can c.requires.apart widths c.loop-place.invariant (omega arith) (omega arith) (omega arith) (omega arith),
    )

pub loop-place-preserved-then-alike : goal.loop-place-preserved-then-alike
loop-place-preserved-then-alike c =
    let shape = c.args.schema.now.shape in
    let half = c.args.next.now.half in
    let kept = c.args.kept in
    let widths = c.as_slice-widths.ensures in
    let place = c.loop-place.place in
    let end = c.min-end.result in
    let stands = run_stands kept.shape.now shape kept.half.now kept.words.now c.as_slice-widths.result.now kept.records.first.now (map bytes_of kept.records.areas.now) end c.requires.shape (c.are_same-alike.ensures.0 c.if-alike.true ∙ c.as_slice-widths_there.ensures)
    c.requires.kept.first c.requires.kept.bytes c.requires.copies.object c.requires.kept.half c.requires.copies.places (omega arith) in
    let room = room_for_run shape half (kept_rows kept) c.args.next.now.differences c.loop-place.removed.now c.loop-place.added.now c.as_slice-widths.result.now c.loop-place.first c.loop-place.areas place end
    c.requires.copies.object c.requires.can c.requires.apart widths c.loop-place.invariant (omega arith) (omega arith) (omega arith) (omega arith) in
    written_run shape half (kept_rows kept) c.args.next.now.differences c.loop-place.removed.now c.loop-place.added.now c.as_slice-widths.result.now c.loop-place.first c.copy_run.new.first c.loop-place.areas c.copy_run.new.areas place end
    c.requires.apart widths c.loop-place.invariant (omega arith) (omega arith) (omega arith) (omega arith) (c.in_ok-copy_run.ensures (kept_rows kept) stands room) c.copy_run.auto.first

pub copy_place-requires-clause-size_there : goal.copy_place-requires-clause-size_there
copy_place-requires-clause-size_there c = c.total_width-size_there.ensures.total ∙ ap (λ (widths : List ℕ). sum widths) c.as_slice-widths_there.ensures

pub copy_place-requires-clause-room : goal.copy_place-requires-clause-room
copy_place-requires-clause-room c =
    room_for_kept c.args.schema.now.shape c.args.next.now.half (kept_rows c.args.kept) c.args.next.now.differences c.loop-place.removed.now c.loop-place.added.now c.as_slice-widths.result.now c.loop-place.first c.loop-place.areas
    c.loop-place.place c.requires.copies.object c.requires.can c.requires.apart c.as_slice-widths.ensures c.loop-place.invariant (omega arith) (omega arith) (omega arith)

pub loop-place-preserved-then-place-end : goal.loop-place-preserved-then-place-end
loop-place-preserved-then-place-end c =
    written_kept c.args.schema.now.shape c.args.next.now.half (kept_rows c.args.kept) c.args.next.now.differences c.loop-place.removed.now c.loop-place.added.now c.as_slice-widths.result.now c.loop-place.first
    c.copy_place.new.first c.loop-place.areas c.copy_place.new.areas c.loop-place.place c.requires.copies.object c.requires.can c.requires.apart c.as_slice-widths.ensures c.loop-place.invariant (omega arith) (omega arith)
    (omega arith) c.in_ok-copy_place.ensures c.copy_place.auto.first

pub put_place-requires-clause-room : goal.put_place-requires-clause-room
put_place-requires-clause-room c =
    let shape = c.args.schema.now.shape in
    let half = c.args.next.now.half in
    let kept = c.args.kept in
    let ds = c.args.next.now.differences in
    let place = c.loop-place.place in
    let there = row_there kept.shape.now kept.half.now half kept.words.now ds c.loop-place.removed.now c.loop-place.added.now c.loop-place.first c.loop-place.areas shape place c.min-end.result c.requires.kept.half c.requires.copies.places
    c.requires.apart c.loop-place.invariant (omega arith) (omega arith) (omega arith) (omega arith) in
    room_for_row shape half (kept_rows kept) ds c.loop-place.removed.now c.loop-place.added.now c.as_slice-widths.result.now c.loop-place.first c.loop-place.areas place (coming_at ds place) c.requires.copies.object
    c.requires.can c.as_slice-widths.ensures c.loop-place.invariant (omega arith) there

pub loop-place-preserved : goal.loop-place-preserved
loop-place-preserved c =
    let shape = c.args.schema.now.shape in
    let half = c.args.next.now.half in
    let kept = c.args.kept in
    let ds = c.args.next.now.differences in
    let place = c.loop-place.place in
    let there = row_there kept.shape.now kept.half.now half kept.words.now ds c.loop-place.removed.now c.loop-place.added.now c.loop-place.first c.loop-place.areas shape place c.min-end.result c.requires.kept.half c.requires.copies.places
    c.requires.apart c.loop-place.invariant (omega arith) (omega arith) (omega arith) (omega arith) in
    let more = written_row shape half (kept_rows kept) ds c.loop-place.removed.now c.loop-place.added.now c.as_slice-widths.result.now c.loop-place.first c.put_place.new.first c.loop-place.areas c.put_place.new.areas place (coming_at ds place)
    c.requires.copies.object c.requires.can c.as_slice-widths.ensures c.loop-place.invariant (omega arith) there c.in_ok-put_place.ensures c.put_place.auto.first in
    subst (λ (left : List ℕ). WrittenSoFar shape half (kept_rows kept) ds left c.behind-added.result.now c.put_place.new.first c.put_place.new.areas (place + 1)) (sym c.behind-removed.ensures)
    (subst (λ (left : List ℕ). WrittenSoFar shape half (kept_rows kept) ds (behind place c.loop-place.removed.now) left c.put_place.new.first c.put_place.new.areas (place + 1)) (sym c.behind-added.ensures) more)

pub returns : goal.returns
returns c =
    written_all c.args.schema.now.shape c.args.next.now.half (kept_rows c.args.kept) c.args.next.now.differences c.loop-place.removed.now c.loop-place.added.now c.loop-place.first c.loop-place.areas c.loop-place.place
    c.requires.copies.object c.requires.can c.loop-place.invariant (omega arith)
