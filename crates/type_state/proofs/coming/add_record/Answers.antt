use Rattle.std.proofs.Common.{rules, ◌<◌, ◌*◌, ◌^◌, arith, refl, sym, subst}
use Rattle.object_codec.proofs.FieldWidths.{place_fits, record_fits, wide_at, widths_long}
use Rattle.object_codec.proofs.Faults.{area_at}
use Rattle.type_rows.proofs.RecordWalks.{Next, adding_begun, adding_ends, adding_more, next_fits, next_inside, next_within}
use Rattle.type_state.proofs.coming.add_record.Goals as goal

pub overflow_cast-size : goal.overflow_cast-size
overflow_cast-size c = omega (arith, c.total_width-size.ensures.total, record_fits c.args.fields.now c.args.widths.now _ _ _ c.requires.holds)

pub overflow_mul-at : goal.overflow_mul-at
overflow_mul-at c =
    record { fits = subst (λ s. c.args.place * s < 2 ^ 64) (sym c.total_width-size.ensures.total) (place_fits c.args.fields.now c.args.widths.now _ _ _ c.requires.holds) }

pub loop-index-init : goal.loop-index-init
loop-index-init c =
    adding_begun c.args.fields.now c.args.widths.now c.args.first.now c.args.areas.now c.args.place c.requires.holds c.args.ends.now c.requires.long c.total_width-size.result c.total_width-size.ensures.total

pub bounds-widths-index : goal.bounds-widths-index
bounds-widths-index c = omega (arith, widths_long c.args.fields.now c.args.widths.now _ _ _ c.requires.holds)

pub value_length-length-requires-clause-narrow : goal.value_length-length-requires-clause-narrow
value_length-length-requires-clause-narrow c =
    (next_within c.args.fields.now c.args.widths.now c.args.first.now c.args.areas.now c.args.place c.requires.holds c.args.ends.now c.requires.long c.loop-index.index (omega arith)).narrow

pub value_length-length-requires-clause-wide : goal.value_length-length-requires-clause-wide
value_length-length-requires-clause-wide c = wide_at c.args.fields.now c.args.widths.now _ _ _ c.loop-index.index c.index-fields-index.result c.requires.holds (omega arith) c.index-fields-index.is

pub value_length-length-requires-clause-inside : goal.value_length-length-requires-clause-inside
value_length-length-requires-clause-inside c =
    next_inside c.args.fields.now c.args.widths.now c.args.first.now c.args.areas.now c.args.place c.requires.holds c.args.ends.now c.requires.long
    c.loop-index.ends c.loop-index.index c.loop-index.at c.loop-index.bytes (omega arith) c.loop-index.invariant

pub holds_end-requires : goal.holds_end-requires
holds_end-requires c =
    (next_within c.args.fields.now c.args.widths.now c.args.first.now c.args.areas.now c.args.place c.requires.holds c.args.ends.now c.requires.long c.loop-index.index (omega arith)).narrow

pub overflow_add-at : goal.overflow_add-at
overflow_add-at c =
    omega (
      arith,
      next_fits c.args.fields.now c.args.widths.now c.args.first.now c.args.areas.now c.args.place c.requires.holds c.args.ends.now c.requires.long
          c.loop-index.ends c.loop-index.index c.loop-index.at c.loop-index.bytes (omega arith) c.loop-index.invariant,
      c.from-at.ensures,
    )

pub loop-index-preserved : goal.loop-index-preserved
loop-index-preserved c =
    let next : Next c.args.fields.now c.args.widths.now c.args.first.now c.args.areas.now c.args.place c.requires.holds c.args.ends.now c.requires.long c.loop-index.ends c.loop-index.index c.loop-index.at
    c.index-fields-index.result c.as_slice-area.result.now c.total_width-size.result c.value_length-length.result c.saturating_add-end.result = record {
      inside = omega arith;
      is = c.index-fields-index.is;
      area_is = area_at c.args.areas.now c.loop-index.index c.index-areas-index.result c.as_slice-area.result.now (omega (arith, c.requires.holds.filled)) c.index-areas-index.is c.as_slice-area.ensures;
      whole = c.total_width-size.ensures.total;
      small = search rules;
      count_small = c.value_length-length.type_inv;
      told = λ p before value at held spells. c.value_length-length.ensures p before c.as_slice-area.result.now value at held refl spells;
      added = c.saturating_add-end.ensures;
    } in
    rw c.from-at.ensures
    (adding_more c.args.fields.now c.args.widths.now c.args.first.now c.args.areas.now c.args.place c.requires.holds c.args.ends.now c.requires.long c.loop-index.ends c.loop-index.index c.loop-index.at c.loop-index.bytes
    c.saturating_add-bytes.result c.index-fields-index.result c.as_slice-area.result.now c.total_width-size.result c.value_length-length.result c.saturating_add-end.result next c.loop-index.invariant
    (c.if-not-holds_end.ensures.0 refl) c.saturating_add-bytes.ensures)

pub returns : goal.returns
returns c =
    adding_ends c.args.fields.now c.args.widths.now c.args.first.now c.args.areas.now c.args.place c.requires.holds c.args.ends.now c.requires.long c.loop-index.ends c.loop-index.index c.loop-index.at c.loop-index.bytes
    (omega arith) c.loop-index.invariant
