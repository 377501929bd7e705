use Rattle.std.proofs.Common.{◌+◌, ◌*◌, ℕ, List, get_or, length, ap, subst, sym, ◌∙◌, arith, refl, Fits, w64, set}
use Rattle.schema_model.specs.declared.schema.Field.{Field}
use Rattle.object_codec.specs.Cell.{IsWithin}
use Rattle.object_codec.proofs.FieldWidths.{place_fits, widths_long, within, wide_at}
use Rattle.object_codec.proofs.RowPuts.{area_lent}
use Rattle.record_copies.proofs.Copied.{CopiedSoFar, ready, copied_none, copied_more, all_copied}
use Rattle.record_copies.proofs.StoredRows.{put_as_is}
use Rattle.record_copies.proofs.record.copy_record.Goals as goal

pub overflow_mul-at : goal.overflow_mul-at
overflow_mul-at g c =
    subst (λ (size : ℕ). Fits w64 (c.args.here.place * size)) (sym c.requires.here_size) (record { fits = place_fits _ _ _ _ _ c.requires.room.2.holds })

pub loop-index-init : goal.loop-index-init
loop-index-init g c = copied_none _ _ _ _ _ _ _ _ _ c.args.here.place _ c.args.here.size c.requires.here_size refl

pub bounds-here-index : goal.bounds-here-index
bounds-here-index g c =
    let long = ap (λ (fs : List Field). length fs) c.fields-fields.ensures in
    omega (arith, widths_long _ _ _ _ _ c.requires.room.2.holds, long)

pub bounds-there-index : goal.bounds-there-index
bounds-there-index g c =
    let long = ap (λ (fs : List Field). length fs) c.fields-fields.ensures in
    omega (arith, widths_long _ _ _ _ _ c.requires.holds, long)

pub take_part-requires-clause-narrow : goal.take_part-requires-clause-narrow
take_part-requires-clause-narrow g c =
    let long = ap (λ (fs : List Field). length fs) c.fields-fields.ensures in
    (within _ _ _ _ _ c.loop-index.index _ c.requires.room.2.holds (omega arith) refl).narrow

pub take_part-requires-clause-wide : goal.take_part-requires-clause-wide
take_part-requires-clause-wide g c =
    let long = ap (λ (fs : List Field). length fs) c.fields-fields.ensures in
    let field = c.index-fields-index.result in
    wide_at _ _ _ _ _ c.loop-index.index field c.requires.room.2.holds (omega arith) (c.index-fields-index.is ∙ ap (λ (fs : List Field). get_or fs c.loop-index.index field) c.fields-fields.ensures)

pub take_part-requires-clause-wide_there : goal.take_part-requires-clause-wide_there
take_part-requires-clause-wide_there g c =
    let long = ap (λ (fs : List Field). length fs) c.fields-fields.ensures in
    let field = c.index-fields-index.result in
    wide_at _ _ _ _ _ c.loop-index.index field c.requires.holds (omega arith) (c.index-fields-index.is ∙ ap (λ (fs : List Field). get_or fs c.loop-index.index field) c.fields-fields.ensures)

pub take_part-requires-clause-within : goal.take_part-requires-clause-within
take_part-requires-clause-within g c =
    let long = ap (λ (fs : List Field). length fs) c.fields-fields.ensures in
    subst
    (λ (size : ℕ). IsWithin (g.S.RecordSource.record_words c.args.from.now) size c.args.there.place c.loop-index.before (get_or c.args.there.widths.now c.loop-index.index 0))
    (sym c.requires.there_size)
    (within _ _ _ _ _ c.loop-index.index c.loop-index.before c.requires.holds (omega arith) c.loop-index.invariant.summed)

pub take_part-requires-clause-room : goal.take_part-requires-clause-room
take_part-requires-clause-room g c =
    let done = c.loop-index.invariant.put c.requires.room.0 c.requires.room.1 in
    let long = ap (λ (fs : List Field). length fs) c.fields-fields.ensures in
    let areas = c.loop-index.areas in
    let index = c.loop-index.index in
    let lent = area_lent areas index c.index-areas-index.result (omega (arith, long, done.filled, c.requires.room.2.holds.filled)) ∙ done.left index (omega arith) in
    let given = ready c.args.schema.now.shape c.fields-fields.result.now _ _ _ _ _ _ _ _ c.requires.room.0 index c.loop-index.before c.args.there.size c.index-fields-index.result
    (get_or areas index c.index-areas-index.result) c.requires.holds c.requires.room.1 c.requires.room.2 c.fields-fields.ensures (omega arith) c.index-fields-index.is c.loop-index.invariant.summed
    c.requires.there_size lent in
    (given.0, given.2)

pub set_element-requires-clause-width : goal.set_element-requires-clause-width
set_element-requires-clause-width g c =
    let long = ap (λ (fs : List Field). length fs) c.fields-fields.ensures in
    (within _ _ _ _ _ c.loop-index.index _ c.requires.room.2.holds (omega arith) refl).narrow

pub set_element-requires-clause-inside : goal.set_element-requires-clause-inside
set_element-requires-clause-inside g c =
    let long = ap (λ (fs : List Field). length fs) c.fields-fields.ensures in
    let held = (within _ _ _ _ _ c.loop-index.index _ c.requires.room.2.holds (omega arith) refl).words_hold in
    let done = c.loop-index.invariant.put c.requires.room.0 c.requires.room.1 in
    let position = done.position in
    let words = done.long in
    omega (arith, held, position, words)

pub set_element-requires-clause-small : goal.set_element-requires-clause-small
set_element-requires-clause-small g c =
    let done = c.loop-index.invariant.put c.requires.room.0 c.requires.room.1 in
    let long = ap (λ (fs : List Field). length fs) c.fields-fields.ensures in
    let areas = c.loop-index.areas in
    let index = c.loop-index.index in
    let lent = area_lent areas index c.index-areas-index.result (omega (arith, long, done.filled, c.requires.room.2.holds.filled)) ∙ done.left index (omega arith) in
    let given = ready c.args.schema.now.shape c.fields-fields.result.now _ _ _ _ _ _ _ _ c.requires.room.0 index c.loop-index.before c.args.there.size c.index-fields-index.result
    (get_or areas index c.index-areas-index.result) c.requires.holds c.requires.room.1 c.requires.room.2 c.fields-fields.ensures (omega arith) c.index-fields-index.is c.loop-index.invariant.summed
    c.requires.there_size lent in
    (c.in_ok-element.ensures given.0 given.2).below

pub overflow_add-before : goal.overflow_add-before
overflow_add-before g c =
    let long = ap (λ (fs : List Field). length fs) c.fields-fields.ensures in
    let held = (within _ _ _ _ _ c.loop-index.index c.loop-index.before c.requires.holds (omega arith) c.loop-index.invariant.summed).fits in
    subst (λ (w : ℕ). Fits w64 (c.loop-index.before + w)) (sym c.from-before.ensures) (record { fits = omega (arith, held) })

pub overflow_add-at : goal.overflow_add-at
overflow_add-at g c =
    let long = ap (λ (fs : List Field). length fs) c.fields-fields.ensures in
    let held = (within _ _ _ _ _ c.loop-index.index _ c.requires.room.2.holds (omega arith) refl).fits in
    let done = c.loop-index.invariant.put c.requires.room.0 c.requires.room.1 in
    let position = done.position in
    subst (λ (w : ℕ). Fits w64 (c.loop-index.at + w)) (sym c.from-at.ensures) (record { fits = omega (arith, held, position) })

pub loop-index-preserved : goal.loop-index-preserved
loop-index-preserved g c =
    let shape = c.args.schema.now.shape in
    let fields = c.fields-fields.result.now in
    let there = c.args.there.widths.now in
    let widths = c.args.here.widths.now in
    let index = c.loop-index.index in
    let areas = set c.loop-index.areas index c.take_part.new.area in
    let long = ap (λ (fs : List Field). length fs) c.fields-fields.ensures in
    let done = c.loop-index.invariant.put c.requires.room.0 c.requires.room.1 in
    let lent = area_lent c.loop-index.areas index c.index-areas-index.result (omega (arith, long, done.filled, c.requires.room.2.holds.filled)) in
    let from_first = (g.S.RecordSource.record_words c.args.from.now) in
    let from_areas = g.S.RecordSource.field_bytes c.args.from.now in
    subst (λ (w : ℕ). CopiedSoFar shape fields there from_first from_areas c.args.there.place widths c.args.first.now c.args.areas.now c.set_element.new.words areas c.args.here.place (index + 1) (c.loop-index.before + w) (c.loop-index.at + c.from-at.result)) (sym c.from-before.ensures)
    (subst (λ (w : ℕ). CopiedSoFar shape fields there from_first from_areas c.args.there.place widths c.args.first.now c.args.areas.now c.set_element.new.words areas c.args.here.place (index + 1) (c.loop-index.before + get_or there index 0) (c.loop-index.at + w)) (sym c.from-at.ensures)
    (copied_more shape fields there from_first from_areas c.args.there.place widths c.args.first.now c.args.areas.now c.loop-index.first c.set_element.new.words c.loop-index.areas c.args.here.place index c.loop-index.before
    c.loop-index.at c.args.there.size c.in_ok-element.element (get_or c.loop-index.areas index c.index-areas-index.result) c.take_part.new.area c.index-fields-index.result c.requires.room.0
    c.loop-index.invariant c.requires.holds c.requires.room.1 c.requires.room.2 c.fields-fields.ensures (omega arith) c.index-fields-index.is c.requires.there_size lent c.in_ok-element.ensures
    c.set_element.ensures.block c.set_element.ensures.is c.set_element.ensures.others c.set_element.auto.words))

pub returns-clause-put : goal.returns-clause-put
returns-clause-put g c =
    all_copied c.args.schema.now.shape c.fields-fields.result.now _ _ _ _ _ _ _ c.loop-index.first c.loop-index.areas c.args.here.place c.loop-index.index c.loop-index.before c.loop-index.at c.requires.room.0
    c.loop-index.invariant c.requires.room.1 c.requires.room.2 c.fields-fields.ensures (omega arith)

pub returns-clause-same : goal.returns-clause-same
returns-clause-same g c =
    λ row spelled.
    put_as_is c.args.schema.now.shape _ _ _ _ _ _ _ c.loop-index.first c.loop-index.areas c.args.here.place row c.requires.holds spelled
    (all_copied c.args.schema.now.shape c.fields-fields.result.now _ _ _ _ _ _ _ c.loop-index.first c.loop-index.areas c.args.here.place c.loop-index.index c.loop-index.before c.loop-index.at c.requires.room.0
    c.loop-index.invariant c.requires.room.1 c.requires.room.2 c.fields-fields.ensures (omega arith) row spelled)
