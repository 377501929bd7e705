use Rattle.std.proofs.Common.{◌≡◌, ◌*◌, List, ℕ, ap, arith, get_or, length, subst, sym, ◌∙◌}
use Rattle.std.specs.Prelude.{sum}
use Rattle.schema_model.specs.declared.schema.Field.{Field}
use Rattle.object_codec.specs.ObjectPlace.{IsKindWidth}
use Rattle.schema_model.specs.Parts.{shape_fields}
use Rattle.type_rows.proofs.FoundRows.{listed_below, read_there}
use Rattle.type_rows.proofs.Columns.{column_more, column_none, column_whole, column_wide, column_within, object_long, record_small, tells_value}
use Rattle.type_rows.proofs.records.column_length.Goals as goal

pub returns-then-not-has_bytes : goal.returns-then-not-has_bytes
returns-then-not-has_bytes c = λ rows is_rows.
    (let field = c.index-fields-index.result in
    let is : field ≡ get_or (shape_fields c.args.shape.now) c.args.index field = c.index-fields-index.is ∙ ap (λ (fields : List Field). get_or fields c.args.index field) c.fields-fields.ensures in
    column_whole c.args.shape.now c.args.section.now c.args.index 0 rows
    (column_none c.args.shape.now c.args.section.now c.args.index field c.requires.object c.requires.inside is (λ has. absurd (let told = c.has_bytes.ensures.1 has in let not = c.if-not-has_bytes.true in cc)) (length c.args.section.now.live) (omega arith)) is_rows)

pub overflow_cast-size : goal.overflow_cast-size
overflow_cast-size c =
    omega (arith, record_small c.args.shape.now c.args.section.now c.requires.object c.requires.readable, c.total_width-size.ensures.total, ap sum c.as_slice-widths.ensures)

pub bounds-widths-index : goal.bounds-widths-index
bounds-widths-index c =
    omega (arith, c.requires.inside, object_long c.args.shape.now c.args.section.now c.requires.object c.requires.readable, ap length c.as_slice-widths.ensures)

pub overflow_mul-at : goal.overflow_mul-at
overflow_mul-at c =
    let section = c.args.section.now in
    let at = read_there c.args.live.now c.loop-ordinal.ordinal-index c.from.result (omega (arith, c.loop-ordinal-test.true)) c.from.ensures in
    let w = column_within c.args.shape.now section c.from.result c.args.index c.requires.object c.requires.readable (listed_below section c.args.live.now c.loop-ordinal.ordinal-index c.from.result c.requires.live c.requires.placed at) c.requires.inside in
    let size : c.total_width-size.result ≡ sum section.widths = c.total_width-size.ensures.total ∙ ap sum c.as_slice-widths.ensures in
    omega (arith, w.fits, ap (λ s. c.from.result * s) size)

pub overflow_add-at : goal.overflow_add-at
overflow_add-at c =
    let section = c.args.section.now in
    let at = read_there c.args.live.now c.loop-ordinal.ordinal-index c.from.result (omega (arith, c.loop-ordinal-test.true)) c.from.ensures in
    let w = column_within c.args.shape.now section c.from.result c.args.index c.requires.object c.requires.readable (listed_below section c.args.live.now c.loop-ordinal.ordinal-index c.from.result c.requires.live c.requires.placed at) c.requires.inside in
    let size : c.total_width-size.result ≡ sum section.widths = c.total_width-size.ensures.total ∙ ap sum c.as_slice-widths.ensures in
    omega (arith, w.fits, ap (λ s. c.from.result * s) size, c.requires.before)

pub value_length-requires-clause-narrow : goal.value_length-requires-clause-narrow
value_length-requires-clause-narrow c =
    let section = c.args.section.now in
    let at = read_there c.args.live.now c.loop-ordinal.ordinal-index c.from.result (omega (arith, c.loop-ordinal-test.true)) c.from.ensures in
    let w = column_within c.args.shape.now section c.from.result c.args.index c.requires.object c.requires.readable (listed_below section c.args.live.now c.loop-ordinal.ordinal-index c.from.result c.requires.live c.requires.placed at) c.requires.inside in
    omega (arith, w.narrow, ap (λ (widths : List ℕ). get_or widths c.args.index 0) c.as_slice-widths.ensures)

pub value_length-requires-clause-wide : goal.value_length-requires-clause-wide
value_length-requires-clause-wide c =
    let section = c.args.section.now in
    let at = read_there c.args.live.now c.loop-ordinal.ordinal-index c.from.result (omega (arith, c.loop-ordinal-test.true)) c.from.ensures in
    let field = c.index-fields-index.result in
    let is : field ≡ get_or (shape_fields c.args.shape.now) c.args.index field = c.index-fields-index.is ∙ ap (λ (fields : List Field). get_or fields c.args.index field) c.fields-fields.ensures in
    subst (λ (widths : List ℕ). IsKindWidth field.kind (get_or widths c.args.index 0)) (sym c.as_slice-widths.ensures)
    (column_wide c.args.shape.now section c.from.result c.args.index c.requires.object c.requires.readable (listed_below section c.args.live.now c.loop-ordinal.ordinal-index c.from.result c.requires.live c.requires.placed at) c.requires.inside field is)

pub value_length-requires-clause-inside : goal.value_length-requires-clause-inside
value_length-requires-clause-inside c =
    let section = c.args.section.now in
    let at = read_there c.args.live.now c.loop-ordinal.ordinal-index c.from.result (omega (arith, c.loop-ordinal-test.true)) c.from.ensures in
    let w = column_within c.args.shape.now section c.from.result c.args.index c.requires.object c.requires.readable (listed_below section c.args.live.now c.loop-ordinal.ordinal-index c.from.result c.requires.live c.requires.placed at) c.requires.inside in
    let size : c.total_width-size.result ≡ sum section.widths = c.total_width-size.ensures.total ∙ ap sum c.as_slice-widths.ensures in
    omega (arith, w.words_hold, ap (λ s. c.from.result * s) size, c.requires.before, ap (λ (widths : List ℕ). get_or widths c.args.index 0) c.as_slice-widths.ensures, ap length c.as_slice-first.ensures)

pub loop-ordinal-preserved : goal.loop-ordinal-preserved
loop-ordinal-preserved c =
    let section = c.args.section.now in
    let at = read_there c.args.live.now c.loop-ordinal.ordinal-index c.from.result (omega (arith, c.loop-ordinal-test.true)) c.from.ensures in
    let w = column_within c.args.shape.now section c.from.result c.args.index c.requires.object c.requires.readable (listed_below section c.args.live.now c.loop-ordinal.ordinal-index c.from.result c.requires.live c.requires.placed at) c.requires.inside in
    let field = c.index-fields-index.result in
    let is : field ≡ get_or (shape_fields c.args.shape.now) c.args.index field = c.index-fields-index.is ∙ ap (λ (fields : List Field). get_or fields c.args.index field) c.fields-fields.ensures in
    column_more c.args.shape.now section c.args.live.now c.args.index c.loop-ordinal.ordinal-index c.from.result c.loop-ordinal.length c.value_length.result c.saturating_add-length.result field c.requires.object c.requires.live at
    c.requires.inside is
    (tells_value section c.args.shape.now c.args.index c.from.result c.value_length.result field c.as_slice-first.result.now c.as_slice-widths.result.now c.total_width-size.result c.args.before c.area_size-bytes.result
    c.as_slice-first.ensures c.as_slice-widths.ensures (c.total_width-size.ensures.total ∙ ap sum c.as_slice-widths.ensures) c.requires.before c.area_size-bytes.ensures w.record_holds c.value_length.ensures)
    c.loop-ordinal.invariant c.saturating_add-length.ensures
