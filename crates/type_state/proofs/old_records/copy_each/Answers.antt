use Rattle.std.proofs.Common.{◌∙◌, ◌<◌, Some, ap, length, sym, arith}
use Rattle.std.proofs.lemmas.Option.{slice_get-get_or, slice_get_within}
use Rattle.type_state.proofs.OldPlaces.{copied_more, place_counted, source_at}
use Rattle.type_state.proofs.old_records.copy_each.Goals as goal

pub overflow_mul-at : goal.overflow_mul-at
overflow_mul-at c =
    let there = source_at c.args.from.now c.args.ordinals.now c.args.size c.loop-place.place c.from.result c.requires.source (omega (arith, c.loop-place-test.true, c.loop-place.auto.place-end)) c.from.ensures in
    omega (arith, there.1)

pub copy_bits-requires-clause-source : goal.copy_bits-requires-clause-source
copy_bits-requires-clause-source c =
    (source_at c.args.from.now c.args.ordinals.now c.args.size c.loop-place.place c.from.result c.requires.source (omega (arith, c.loop-place-test.true, c.loop-place.auto.place-end)) c.from.ensures).0

pub copy_bits-requires-clause-counted : goal.copy_bits-requires-clause-counted
copy_bits-requires-clause-counted c = (
  (source_at c.args.from.now c.args.ordinals.now c.args.size c.loop-place.place c.from.result c.requires.source (omega (arith, c.loop-place-test.true, c.loop-place.auto.place-end)) c.from.ensures).1,
  place_counted c.args.ordinals.now c.args.size c.loop-place.place c.requires.counted (omega (arith, c.loop-place-test.true, c.loop-place.auto.place-end)),
)

pub loop-place-preserved : goal.loop-place-preserved
loop-place-preserved c =
    let inside : c.loop-place.place < length c.args.ordinals.now = omega (arith, c.loop-place-test.true, c.loop-place.auto.place-end) in
    record {
      copied =
          copied_more c.args.size c.args.from.now c.loop-place.to c.copy_bits.new.to c.args.ordinals.now c.loop-place.place c.from.result c.loop-place.invariant.copied
          (slice_get-get_or c.args.ordinals.now c.loop-place.place 0 inside ∙ ap Some (sym c.from.ensures)) c.copy_bits.ensures.each c.copy_bits.ensures.others;
      long = c.copy_bits.auto.to ∙ c.loop-place.invariant.long;
    }

pub returns : goal.returns
returns c = λ place ordinal at.
    let inside = slice_get_within c.args.ordinals.now place ordinal at in
    c.loop-place.invariant.copied.each place ordinal (omega (arith, inside, c.loop-place-test.false, c.loop-place.auto.place-end)) at
