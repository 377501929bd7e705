use Rattle.std.proofs.Common.{◌≡◌, ◌+◌, ◌*◌, ◌^◌, ◌<◌, ◌-◌, ℕ, List, get_or, length, subst, sym, ◌∙◌, arith, refl, Fits, w64, set}
use Rattle.std.specs.Prelude.{option_copied, slice_get}
use Rattle.row_model.specs.Areas.{area_of}
use Rattle.object_codec.specs.Encoded.{IsTaken}
use Rattle.object_codec.specs.Stored.{value_at, values_bytes}
use Rattle.object_codec.proofs.FieldWidths.{place_fits, widths_long, within, wide_at}
use Rattle.object_codec.proofs.RowPuts.{PutSoFar, room, put_none, put_more, row_put, area_lent}
use Rattle.object_codec.proofs.packing.put_laid.Goals as goal

pub overflow_mul-at : goal.overflow_mul-at
overflow_mul-at c =
    subst (λ (size : ℕ). Fits w64 (c.args.place * size)) (sym c.requires.size) (record { fits = place_fits _ _ _ _ _ c.requires.room.holds })

pub loop-index-init : goal.loop-index-init
loop-index-init c = put_none _ c.args.layout.widths.now c.args.first.now c.args.areas.now _ c.args.place _ c.args.layout.size c.requires.size refl

pub bounds-widths-index : goal.bounds-widths-index
bounds-widths-index c =
    let r = room _ c.fields-fields.result.now _ _ _ _ _ c.values_in-values.result.now c.requires.room c.fields-fields.ensures c.values_in-values.ensures in
    omega (arith, widths_long _ _ _ _ _ r.holds)

pub take_value-requires-clause-narrow : goal.take_value-requires-clause-narrow
take_value-requires-clause-narrow c =
    let r = room _ c.fields-fields.result.now _ _ _ _ _ c.values_in-values.result.now c.requires.room c.fields-fields.ensures c.values_in-values.ensures in
    (within _ _ _ _ _ c.loop-index.index _ r.holds (omega arith) refl).narrow

pub take_value-requires-clause-wide : goal.take_value-requires-clause-wide
take_value-requires-clause-wide c =
    let r = room _ c.fields-fields.result.now _ _ _ _ _ c.values_in-values.result.now c.requires.room c.fields-fields.ensures c.values_in-values.ensures in
    wide_at _ _ _ _ _ c.loop-index.index c.index-fields-index.result r.holds (omega arith) c.index-fields-index.is

pub take_value-requires-clause-fits : goal.take_value-requires-clause-fits
take_value-requires-clause-fits c =
    let r = room _ c.fields-fields.result.now _ _ _ _ _ c.values_in-values.result.now c.requires.room c.fields-fields.ensures c.values_in-values.ensures in
    r.fits c.loop-index.index c.index-fields-index.result (omega arith) c.index-fields-index.is

pub take_value-requires-clause-number : goal.take_value-requires-clause-number
take_value-requires-clause-number c =
    let r = room _ c.fields-fields.result.now _ _ _ _ _ c.values_in-values.result.now c.requires.room c.fields-fields.ensures c.values_in-values.ensures in
    r.numbers c.loop-index.index

pub take_value-requires-clause-end : goal.take_value-requires-clause-end
take_value-requires-clause-end c =
    let r = room _ c.fields-fields.result.now _ _ _ _ _ c.values_in-values.result.now c.requires.room c.fields-fields.ensures c.values_in-values.ensures in
    let areas = c.loop-index.areas in
    let index = c.loop-index.index in
    let there : get_or areas index c.index-areas-index.result ≡ area_of c.args.areas.now index =
    area_lent areas index c.index-areas-index.result (omega (arith, c.loop-index.invariant.filled, r.holds.filled)) ∙ c.loop-index.invariant.left index (omega arith) in
    λ has.
    subst (λ (area : List ℕ). length area + length (values_bytes (value_at index c.values_in-values.result.now)) < 2 ^ (get_or c.args.layout.widths.now index 0 - 1)) (sym there)
    (r.ends index c.index-fields-index.result (omega arith) c.index-fields-index.is has)

pub set_element-requires-clause-width : goal.set_element-requires-clause-width
set_element-requires-clause-width c =
    let r = room _ c.fields-fields.result.now _ _ _ _ _ c.values_in-values.result.now c.requires.room c.fields-fields.ensures c.values_in-values.ensures in
    (within _ _ _ _ _ c.loop-index.index _ r.holds (omega arith) refl).narrow

pub set_element-requires-clause-inside : goal.set_element-requires-clause-inside
set_element-requires-clause-inside c =
    let r = room _ c.fields-fields.result.now _ _ _ _ _ c.values_in-values.result.now c.requires.room c.fields-fields.ensures c.values_in-values.ensures in
    let held = (within _ _ _ _ _ c.loop-index.index _ r.holds (omega arith) refl).words_hold in
    omega (arith, held, c.loop-index.invariant.position, c.loop-index.invariant.long)

pub overflow_add-at : goal.overflow_add-at
overflow_add-at c =
    let r = room _ c.fields-fields.result.now _ _ _ _ _ c.values_in-values.result.now c.requires.room c.fields-fields.ensures c.values_in-values.ensures in
    let fits = (within _ _ _ _ _ c.loop-index.index _ r.holds (omega arith) refl).fits in
    let at = c.loop-index.invariant.position in
    subst (λ (w : ℕ). Fits w64 (c.loop-index.at + w)) (sym c.from-at.ensures) (record { fits = omega arith })

pub loop-index-preserved : goal.loop-index-preserved
loop-index-preserved c =
    let r = room _ c.fields-fields.result.now _ _ _ _ _ c.values_in-values.result.now c.requires.room c.fields-fields.ensures c.values_in-values.ensures in
    let fields = c.fields-fields.result.now in
    let widths = c.args.layout.widths.now in
    let values = c.values_in-values.result.now in
    let index = c.loop-index.index in
    let field = c.index-fields-index.result in
    let lent = area_lent c.loop-index.areas index c.index-areas-index.result (omega (arith, c.loop-index.invariant.filled, r.holds.filled)) in
    subst (λ (w : ℕ). PutSoFar fields widths c.args.first.now c.args.areas.now values c.set_element.new.words (set c.loop-index.areas index c.take_value.new.area) c.args.place (index + 1) (c.loop-index.at + w)) (sym c.from-at.ensures)
    (put_more fields widths c.args.first.now c.args.areas.now values c.loop-index.first c.set_element.new.words c.loop-index.areas c.args.place index c.loop-index.at c.in_ok-element.element (get_or widths index 0)
    c.take_value.new.area field c.loop-index.invariant r.holds r.follows (omega arith) c.index-fields-index.is refl
    (subst (λ (area : List ℕ). IsTaken field.kind (get_or widths index 0) c.in_ok-element.element area c.take_value.new.area (slice_get values index)) lent c.in_ok-element.ensures)
    c.set_element.ensures.block c.set_element.ensures.is c.set_element.ensures.others c.set_element.auto.words)

pub returns : goal.returns
returns c =
    row_put c.args.layout.schema.now.shape c.fields-fields.result.now c.args.layout.widths.now c.args.first.now c.args.areas.now c.values_in-values.result.now c.loop-index.first c.loop-index.areas c.args.place c.loop-index.index c.loop-index.at
    (option_copied c.args.row) c.requires.room c.fields-fields.ensures c.values_in-values.ensures (omega arith) c.loop-index.invariant
