use Rattle.std.proofs.Common.{◌<◌, ℕ, List, arith, sym, subst, get_or, length}
use Rattle.std.proofs.lemmas.List.{get_or-take, length-take}
use Rattle.object_codec.specs.Cell.{IsWithin}
use Rattle.object_codec.proofs.FieldWidths.{record_fits, widths_long, wide_at, within}
use Rattle.object_codec.proofs.Soundness.{found_at, found_on, found_end, found_none}
use Rattle.object_codec.specs.Sound.{ArePlain}
use Rattle.object_codec.proofs.Faults.{area_at}
use Rattle.object_codec.proofs.sound.first_by_field.Goals as goal
use Rattle.object_codec.proofs.sound.first_by_field.Goals.{in-Some, in_default}

pub overflow_cast-size : goal.overflow_cast-size
overflow_cast-size c = omega (arith, c.total_width-size.ensures.total, record_fits c.args.fields.now c.args.widths.now _ _ _ (c.requires.holds 0 c.requires.some))

pub loop-index-init : goal.loop-index-init
loop-index-init c = found_none c.args.fields.now c.args.widths.now c.args.first.now c.args.areas.now c.args.places.now c.requires.holds

pub bounds-widths-index : goal.bounds-widths-index
bounds-widths-index c = omega (arith, widths_long c.args.fields.now c.args.widths.now _ _ _ (c.requires.holds 0 c.requires.some))

pub first_in_field-requires-clause-wide : goal.first_in_field-requires-clause-wide
first_in_field-requires-clause-wide c =
    wide_at c.args.fields.now c.args.widths.now _ _ _ c.loop-index.index c.index-fields-index.result (c.requires.holds 0 c.requires.some) (omega arith) c.index-fields-index.is

pub first_in_field-requires-clause-within : goal.first_in_field-requires-clause-within
first_in_field-requires-clause-within c = λ k inside.
    (let below : k < c.loop-index.left = omega (arith, inside, length-take c.loop-index.left c.args.places.now) in
    let fits : k < length c.args.places.now = omega (arith, below, c.loop-index.invariant.within) in
    subst (λ place. IsWithin c.args.first.now c.total_width-size.result place c.loop-index.before (get_or c.args.widths.now c.loop-index.index 0)) (sym (get_or-take c.loop-index.left c.args.places.now k 0 below))
    (subst (λ size. IsWithin c.args.first.now size (get_or c.args.places.now k 0) c.loop-index.before (get_or c.args.widths.now c.loop-index.index 0))
    (sym c.total_width-size.ensures.total)
    (within c.args.fields.now c.args.widths.now c.args.first.now c.args.areas.now (get_or c.args.places.now k 0) c.loop-index.index c.loop-index.before (c.requires.holds k fits) (omega arith) c.loop-index.invariant.sound.summed)))

pub overflow_add-before : goal.overflow_add-before
overflow_add-before c =
    omega (
      arith,
      within c.args.fields.now c.args.widths.now c.args.first.now c.args.areas.now (get_or c.args.places.now 0 0) c.loop-index.index c.loop-index.before (c.requires.holds 0 c.requires.some) (omega arith) c.loop-index.invariant.sound.summed,
      record_fits c.args.fields.now c.args.widths.now _ _ _ (c.requires.holds 0 c.requires.some),
    )

pub loop-index-preserved : goal.loop-index-preserved
loop-index-preserved c =
    let inside : c.loop-index.index < length c.args.fields.now = omega arith in
    let there : c.loop-index.index < length c.args.widths.now = omega (arith, widths_long c.args.fields.now c.args.widths.now _ _ _ (c.requires.holds 0 c.requires.some)) in
    let area_is = area_at c.args.areas.now c.loop-index.index c.index-areas-index.result c.as_slice-area.result.now (omega (arith, (c.requires.holds 0 c.requires.some).filled)) c.index-areas-index.is c.as_slice-area.ensures in
    rw c.from-before.ensures
    (elim c.match-branch-2.branch [
      | in-Some w ↦
          found_at c.args.fields.now c.args.widths.now c.args.first.now c.args.areas.now c.args.places.now c.requires.holds c.loop-index.left c.match-branch-2.left c.total_width-size.result c.loop-index.index c.loop-index.before
          c.loop-index.found c.match-branch-2.found c.index-fields-index.result c.as_slice-area.result.now c.in_ok-at.field-0 w.in-Some.at w.in-Some.reason inside there c.index-fields-index.is area_is c.total_width-size.ensures.total
          c.loop-index.invariant w.in-Some.is c.in_ok-at.ensures.tells w.left-is w.found-is
      | in_default w ↦
          found_on c.args.fields.now c.args.widths.now c.args.first.now c.args.areas.now c.args.places.now c.requires.holds c.loop-index.left c.match-branch-2.left c.total_width-size.result c.loop-index.index c.loop-index.before
          c.loop-index.found c.match-branch-2.found c.index-fields-index.result c.as_slice-area.result.now c.in_ok-at.field-0 inside there c.index-fields-index.is area_is c.total_width-size.ensures.total
          c.loop-index.invariant w.in_default.is c.in_ok-at.ensures.tells w.left-is w.found-is
    ])

pub returns-clause-tells : goal.returns-clause-tells
returns-clause-tells c = found_end c.args.fields.now c.args.widths.now c.args.first.now c.args.areas.now c.args.places.now c.requires.holds c.loop-index.left c.loop-index.index c.loop-index.before c.loop-index.found (omega arith) c.loop-index.invariant

pub returns-in_err-at-clause-plain : goal.returns-in_err-at-clause-plain
returns-in_err-at-clause-plain c = λ plain.
    (let area_is = area_at c.args.areas.now c.loop-index.index c.index-areas-index.result c.as_slice-area.result.now (omega (arith, (c.requires.holds 0 c.requires.some).filled)) c.index-areas-index.is c.as_slice-area.ensures in
    absurd (c.in_err-at.ensures.plain (subst (λ (area : List ℕ). ArePlain area) (sym area_is) (plain c.loop-index.index))))
