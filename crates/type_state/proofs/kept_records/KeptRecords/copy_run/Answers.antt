use Rattle.std.proofs.Common.{◌+◌, ◌*◌, ◌<◌, ◌≤◌, ◌^◌, ◌∙◌, ℕ, Option, length, ap, sym, subst}
use Rattle.row_model.specs.declared.row.Row.{Row}
use Rattle.bucket_codec.specs.BucketPlace.{bucket_width, pointer_width}
use Rattle.bucket_codec.specs.Packed.{buckets_of, IsWritable, PacksPairs}
use Rattle.type_state.proofs.KeptRecords.{run_has, run_holds_there, run_kept}
use Rattle.type_state.proofs.kept_records.KeptRecords.copy_run.Goals as goal

pub buckets-requires : goal.buckets-requires
buckets-requires c =
    let kept = c.args.self in
    run_holds_there kept.shape.now kept.half.now kept.words.now c.as_slice.result.now kept.records.first.now kept.second.now c.from-there.result c.args.ordinal
    c.as_slice.ensures c.requires.kept.first c.requires.kept.second c.from-there.ensures c.requires.kept.half c.requires.live c.requires.runs c.ranges.ordinal.fits

pub size-requires : goal.size-requires
size-requires c =
    let kept = c.args.self in
    run_holds_there kept.shape.now kept.half.now kept.words.now c.as_slice.result.now kept.records.first.now kept.second.now c.from-there.result c.args.ordinal
    c.as_slice.ensures c.requires.kept.first c.requires.kept.second c.from-there.ensures c.requires.kept.half c.requires.live c.requires.runs c.ranges.ordinal.fits

pub copy_buckets-requires-clause-row : goal.copy_buckets-requires-clause-row
copy_buckets-requires-clause-row c =
    let kept = c.args.self in
    let run = run_kept kept.shape.now kept.half.now kept.words.now c.as_slice.result.now kept.records.first.now kept.second.now c.from-there.result c.args.ordinal
    c.as_slice.ensures c.requires.kept.first c.requires.kept.second c.from-there.ensures c.requires.kept.half c.requires.live c.requires.runs c.in-Some.buckets c.size.result c.in-Some.ensures c.size.ensures in
    (run.0, run.2, (subst (λ (row : Option Row). IsWritable c.args.widths.now row) run.1 c.requires.room.writable).2)

pub copy_buckets-requires-clause-pointer : goal.copy_buckets-requires-clause-pointer
copy_buckets-requires-clause-pointer c =
    let kept = c.args.self in
    let run = run_kept kept.shape.now kept.half.now kept.words.now c.as_slice.result.now kept.records.first.now kept.second.now c.from-there.result c.args.ordinal
    c.as_slice.ensures c.requires.kept.first c.requires.kept.second c.from-there.ensures c.requires.kept.half c.requires.live c.requires.runs c.in-Some.buckets c.size.result c.in-Some.ensures c.size.ensures in
    subst (λ (count : ℕ). c.args.start + count < 2 ^ pointer_width c.args.widths.now) (ap buckets_of run.1 ∙ sym run.3) c.requires.room.pointer

pub copy_buckets-requires-clause-inside : goal.copy_buckets-requires-clause-inside
copy_buckets-requires-clause-inside c =
    let kept = c.args.self in
    let run = run_kept kept.shape.now kept.half.now kept.words.now c.as_slice.result.now kept.records.first.now kept.second.now c.from-there.result c.args.ordinal
    c.as_slice.ensures c.requires.kept.first c.requires.kept.second c.from-there.ensures c.requires.kept.half c.requires.live c.requires.runs c.in-Some.buckets c.size.result c.in-Some.ensures c.size.ensures in
    subst (λ (count : ℕ). (c.args.start + count) * bucket_width c.args.widths.now ≤ 64 * length c.args.second.now) (ap buckets_of run.1 ∙ sym run.3) c.requires.room.inside

pub unreachable-requires : goal.unreachable-requires
unreachable-requires c =
    let kept = c.args.self in
    run_has kept.shape.now kept.half.now kept.words.now c.as_slice.result.now kept.records.first.now kept.second.now c.from-there.result c.args.ordinal
    c.as_slice.ensures c.requires.kept.first c.requires.kept.second c.from-there.ensures c.requires.kept.half c.requires.live c.requires.runs c.in-None.ensures

pub returns : goal.returns
returns c =
    let kept = c.args.self in
    let run = run_kept kept.shape.now kept.half.now kept.words.now c.as_slice.result.now kept.records.first.now kept.second.now c.from-there.result c.args.ordinal
    c.as_slice.ensures c.requires.kept.first c.requires.kept.second c.from-there.ensures c.requires.kept.half c.requires.live c.requires.runs c.in-Some.buckets c.size.result c.in-Some.ensures c.size.ensures in
    let put = c.copy_buckets.ensures in
    record {
      ends = put.end ∙ ap (λ (count : ℕ). c.args.start + count) (run.3 ∙ sym (ap buckets_of run.1));
      pointer = put.pointer;
      packed = subst (λ (row : Option Row). PacksPairs c.args.widths.now c.copy_buckets.result c.copy_buckets.new.first c.copy_buckets.new.second c.args.place row) (sym run.1) (put.packed run.0 run.2);
      first_front = put.first;
      second_front = put.second;
    }
