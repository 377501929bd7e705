use Rattle.std.proofs.Common.{◌+◌, ◌-◌, ◌*◌, ◌≤◌, ℕ, List, arith, ap, get_or, length, subst, sym, ◌∙◌}
use Rattle.std.specs.Prelude.{map}
use Rattle.std.proofs.lemmas.Bool.{false≢true}
use Rattle.std.proofs.lemmas.Slice.Zip.{AllZip-long}
use Rattle.row_model.specs.Areas.{area_of}
use Rattle.object_codec.specs.ObjectPlace.{IsFieldWidth}
use Rattle.std.proofs.lemmas.List.{length-map}
use Rattle.schema_model.specs.declared.schema.Field.{Field}
use Rattle.schema_model.specs.Parts.{shape_fields}
use Rattle.object_codec.specs.Packing.{HasBytes}
use Rattle.object_codec.proofs.RowPuts.{area_lent}
use Rattle.record_copies.proofs.Sources.{area_in_words}
use Rattle.object_codec.specs.Bytes.{bytes_of}
use Rattle.record_copies.specs.declared.column.Column.{Column}
use Rattle.record_copies.specs.Column.{CanShift, IsMoved, start_in}
use Rattle.record_copies.proofs.Moves.{MovedSoFar, column_of, field_ends, field_once, moved_more, moved_none, moved_past, start_of_field}
use Rattle.record_copies.proofs.Runs.{between_steps, column_can_shift, column_is, column_lies, end_inside, run_fits, run_put}
use Rattle.record_copies.proofs.run.copy_run.Goals as goal
use Rattle.record_copies.proofs.run.copy_run.Goals.{then-has_bytes+in_ok-move_bytes, else-has_bytes}

pub overflow_cast-size : goal.overflow_cast-size
overflow_cast-size c =
    let fits = run_fits _ _ _ _ _ _ c.args.run c.requires.0 c.total_width-size.result c.requires.1 c.requires.2 c.total_width-size.ensures.total in
    record { fits = omega (arith, fits.small) }

pub overflow_mul-start : goal.overflow_mul-start
overflow_mul-start c =
    let fits = run_fits _ _ _ _ _ _ c.args.run c.requires.0 c.total_width-size.result c.requires.1 c.requires.2 c.total_width-size.ensures.total in
    record { fits = omega (arith, fits.up, fits.fits) }

pub overflow_mul-run : goal.overflow_mul-run
overflow_mul-run c =
    let fits = run_fits _ _ _ _ _ _ c.args.run c.requires.0 c.total_width-size.result c.requires.1 c.requires.2 c.total_width-size.ensures.total in
    record { fits = fits.fits }

pub copy_bits-requires-clause-counted : goal.copy_bits-requires-clause-counted
copy_bits-requires-clause-counted c =
    let fits = run_fits _ _ _ _ _ _ c.args.run c.requires.0 c.total_width-size.result c.requires.1 c.requires.2 c.total_width-size.ensures.total in
    (omega (arith, fits.up, fits.fits), omega (arith, fits.up, fits.fits))

pub loop-index-init : goal.loop-index-init
loop-index-init c =
    let whole = c.total_width-size.ensures.total in
    moved_none (shape_fields c.args.schema.now.shape) c.args.widths.now c.args.from.now.first.now (map bytes_of c.args.from.now.areas.now) c.args.first.now c.copy_bits.new.to c.args.areas.now c.args.run _ _
    (sym (AllZip-long IsFieldWidth (shape_fields c.args.schema.now.shape) c.args.widths.now c.requires.1.wide)) (ap (λ n. c.args.run.place * n) whole)
    (ap (λ n. c.args.run.end * n - c.args.run.place * c.total_width-size.result) whole) c.requires.2.rises c.copy_bits.auto.to c.copy_bits.ensures.block c.copy_bits.ensures.each c.copy_bits.ensures.others

pub bounds-widths-index : goal.bounds-widths-index
bounds-widths-index c =
    let wide = AllZip-long IsFieldWidth (shape_fields c.args.schema.now.shape) c.args.widths.now c.requires.1.wide in
    let fields = ap (λ (fs : List Field). length fs) c.fields-fields.ensures in
    omega arith

pub move_bytes-requires-clause-lies : goal.move_bytes-requires-clause-lies
move_bytes-requires-clause-lies c =
    let fields = ap (λ (fs : List Field). length fs) c.fields-fields.ensures in
    let field = c.index-fields-index.result in
    let is = c.index-fields-index.is ∙ ap (λ (fs : List Field). get_or fs c.loop-index.index field) c.fields-fields.ensures in
    let has = (c.has_bytes.ensures).0 c.if-has_bytes.true in
    column_lies c.args.schema.now.shape _ _ _ c.args.first.now c.args.areas.now c.args.run c.requires.0 c.loop-index.index _ _ field c.loop-index.first c.requires.1 c.requires.2 (omega arith) is has
    c.total_width-size.ensures.total c.loop-index.invariant.summed (omega (arith, c.requires.2.within, c.loop-index.invariant.long))

pub move_bytes-requires-clause-stands : goal.move_bytes-requires-clause-stands
move_bytes-requires-clause-stands c =
    let fields = ap (λ (fs : List Field). length fs) c.fields-fields.ensures in
    let field = c.index-fields-index.result in
    let is = c.index-fields-index.is ∙ ap (λ (fs : List Field). get_or fs c.loop-index.index field) c.fields-fields.ensures in
    let has = (c.has_bytes.ensures).0 c.if-has_bytes.true in
    column_lies c.args.schema.now.shape _ _ _ c.args.first.now c.args.areas.now c.args.run c.requires.0 c.loop-index.index _ _ field c.args.from.now.first.now c.requires.1 c.requires.2 (omega arith) is has
    c.total_width-size.ensures.total c.loop-index.invariant.summed c.requires.1.within

pub move_bytes-requires-clause-steps : goal.move_bytes-requires-clause-steps
move_bytes-requires-clause-steps c =
    let fields = ap (λ (fs : List Field). length fs) c.fields-fields.ensures in
    let field = c.index-fields-index.result in
    let is = c.index-fields-index.is ∙ ap (λ (fs : List Field). get_or fs c.loop-index.index field) c.fields-fields.ensures in
    let has = (c.has_bytes.ensures).0 c.if-has_bytes.true in
    let run = c.args.run in
    let there = c.args.from.now.first.now in
    let column = column_is c.args.widths.now c.loop-index.index _ _ c.total_width-size.ensures.total c.loop-index.invariant.summed in
    let steps = between_steps c.args.schema.now.shape c.args.widths.now there (map bytes_of c.args.from.now.areas.now) run.end c.requires.0 c.requires.1 c.loop-index.index field (omega arith) is has run.place run.end c.requires.2.rises (omega arith) in
    subst (λ (column : Column). start_in column there run.place ≤ start_in column there run.end) (sym column) steps.rises

pub move_bytes-requires-clause-inside : goal.move_bytes-requires-clause-inside
move_bytes-requires-clause-inside c =
    let fields = ap (λ (fs : List Field). length fs) c.fields-fields.ensures in
    let field = c.index-fields-index.result in
    let is = c.index-fields-index.is ∙ ap (λ (fs : List Field). get_or fs c.loop-index.index field) c.fields-fields.ensures in
    let has = (c.has_bytes.ensures).0 c.if-has_bytes.true in
    let run = c.args.run in
    let there = c.args.from.now.first.now in
    let areas = c.args.from.now.areas.now in
    let column = column_is c.args.widths.now c.loop-index.index _ _ c.total_width-size.ensures.total c.loop-index.invariant.summed in
    let filled = c.requires.1.filled in
    let area = area_in_words areas c.loop-index.index c.index-from-index.result (omega (arith, length-map areas bytes_of, filled)) in
    let within = end_inside c.args.schema.now.shape c.args.widths.now there (map bytes_of areas) run.end c.requires.0 c.requires.1 c.loop-index.index field (omega arith) is has run.end (omega arith) in
    subst (λ (column : Column). start_in column there run.end ≤ length (bytes_of (get_or areas c.loop-index.index c.index-from-index.result))) (sym column)
    (subst (λ (bytes : List ℕ). start_of_field c.args.widths.now there c.loop-index.index run.end ≤ length bytes) area within)

pub move_bytes-requires-clause-can : goal.move_bytes-requires-clause-can
move_bytes-requires-clause-can c =
    let fields = ap (λ (fs : List Field). length fs) c.fields-fields.ensures in
    let field = c.index-fields-index.result in
    let is = c.index-fields-index.is ∙ ap (λ (fs : List Field). get_or fs c.loop-index.index field) c.fields-fields.ensures in
    let has = (c.has_bytes.ensures).0 c.if-has_bytes.true in
    let run = c.args.run in
    let index = c.loop-index.index in
    let there = c.args.from.now.first.now in
    let column = column_is c.args.widths.now index _ _ c.total_width-size.ensures.total c.loop-index.invariant.summed in
    let lent = area_lent c.loop-index.areas index c.index-areas-index.result (omega (arith, c.loop-index.invariant.filled, c.requires.2.filled)) in
    let can = column_can_shift c.args.schema.now.shape c.args.widths.now there (map bytes_of c.args.from.now.areas.now) c.args.first.now c.args.areas.now run c.loop-index.first c.loop-index.areas c.requires.0 index field
    c.requires.1 c.requires.2 (omega arith) is has (c.loop-index.invariant.left index (omega arith) (omega arith)) in
    subst (λ (column : Column). CanShift column c.loop-index.first run (start_in column there run.place) (length (get_or c.loop-index.areas index c.index-areas-index.result))) (sym column)
    (subst (λ (area : List ℕ). CanShift (column_of c.args.widths.now index) c.loop-index.first run (start_of_field c.args.widths.now there index run.place) (length area)) (sym lent) can)

pub overflow_add-before : goal.overflow_add-before
overflow_add-before c =
    let fields = ap (λ (fs : List Field). length fs) c.fields-fields.ensures in
    let wide = AllZip-long IsFieldWidth (shape_fields c.args.schema.now.shape) c.args.widths.now c.requires.1.wide in
    let fits = run_fits _ _ _ _ _ _ c.args.run c.requires.0 c.total_width-size.result c.requires.1 c.requires.2 c.total_width-size.ensures.total in
    let ends = field_ends c.args.widths.now c.loop-index.index (omega arith) in
    record { fits = omega (arith, ends, fits.small, c.total_width-size.ensures.total, c.loop-index.invariant.summed, c.from-before.ensures) }

pub loop-index-preserved : goal.loop-index-preserved
loop-index-preserved c =
    let shape = c.args.schema.now.shape in
    let widths = c.args.widths.now in
    let there = c.args.from.now.first.now in
    let areas_there = map bytes_of c.args.from.now.areas.now in
    let run = c.args.run in
    let index = c.loop-index.index in
    let fields = ap (λ (fs : List Field). length fs) c.fields-fields.ensures in
    let wide = AllZip-long IsFieldWidth (shape_fields shape) widths c.requires.1.wide in
    let field = c.index-fields-index.result in
    let is = c.index-fields-index.is ∙ ap (λ (fs : List Field). get_or fs index field) c.fields-fields.ensures in
    subst (λ w. MovedSoFar (shape_fields shape) widths there areas_there c.args.first.now c.args.areas.now run c.if-has_bytes.first c.if-has_bytes.areas (index + 1) (c.loop-index.before + w)) (sym c.from-before.ensures)
    (elim c.if-has_bytes.branch [
      | then-has_bytes+in_ok-move_bytes w ↦
          let has = (c.has_bytes.ensures).0 w.if-has_bytes.true in
          let column = column_is widths index _ _ c.total_width-size.ensures.total c.loop-index.invariant.summed in
          let lent = area_lent c.loop-index.areas index w.index-areas-index.result (omega (arith, c.loop-index.invariant.filled, c.requires.2.filled)) in
          let area = area_in_words c.args.from.now.areas.now index w.index-from-index.result (omega (arith, length-map c.args.from.now.areas.now bytes_of, c.requires.1.filled)) in
          let given : Column = record { size = c.total_width-size.result; before = c.loop-index.before; width = get_or widths index 0 } in
          let bytes_there = bytes_of (get_or c.args.from.now.areas.now index w.index-from-index.result) in
          let put : IsMoved (column_of widths index) there (area_of areas_there index) run c.loop-index.first w.move_bytes.new.first (area_of c.loop-index.areas index) w.move_bytes.new.area =
          subst (λ (column : Column). IsMoved column there (area_of areas_there index) run c.loop-index.first w.move_bytes.new.first (area_of c.loop-index.areas index) w.move_bytes.new.area) column
          (subst (λ (bytes : List ℕ). IsMoved given there bytes run c.loop-index.first w.move_bytes.new.first (area_of c.loop-index.areas index) w.move_bytes.new.area) (sym area)
          (subst (λ (before : List ℕ). IsMoved given there bytes_there run c.loop-index.first w.move_bytes.new.first before w.move_bytes.new.area) lent w.in_ok-move_bytes.ensures)) in
          let done = moved_more (shape_fields shape) widths there areas_there c.args.first.now c.args.areas.now run c.loop-index.first w.move_bytes.new.first c.loop-index.areas index c.loop-index.before w.move_bytes.new.area
          (sym wide) c.requires.2.filled (omega arith) c.loop-index.invariant put
          (λ f at. subst (λ (g : Field). HasBytes g.kind) (field_once (shape_fields shape) index (omega arith) field f is at) has) w.move_bytes.auto.first in
          subst (λ (words : List ℕ). MovedSoFar (shape_fields shape) widths there areas_there c.args.first.now c.args.areas.now run words c.if-has_bytes.areas (index + 1) (c.loop-index.before + get_or widths index 0)) (sym w.first-is)
          (subst (λ (areas : List (List ℕ)). MovedSoFar (shape_fields shape) widths there areas_there c.args.first.now c.args.areas.now run w.move_bytes.new.first areas (index + 1) (c.loop-index.before + get_or widths index 0)) (sym w.areas-is) done)
      | else-has_bytes w ↦
          let done = moved_past (shape_fields shape) widths there areas_there c.args.first.now c.args.areas.now run c.loop-index.first c.loop-index.areas index c.loop-index.before field (sym wide) (omega arith) is
          (λ has. absurd (false≢true (sym w.if-has_bytes.false ∙ (c.has_bytes.ensures).1 has))) (field_once (shape_fields shape) index (omega arith)) c.loop-index.invariant in
          subst (λ (words : List ℕ). MovedSoFar (shape_fields shape) widths there areas_there c.args.first.now c.args.areas.now run words c.if-has_bytes.areas (index + 1) (c.loop-index.before + get_or widths index 0)) (sym w.first-is)
          (subst (λ (areas : List (List ℕ)). MovedSoFar (shape_fields shape) widths there areas_there c.args.first.now c.args.areas.now run c.loop-index.first areas (index + 1) (c.loop-index.before + get_or widths index 0)) (sym w.areas-is) done)
    ])

pub returns : goal.returns
returns c = λ rows stands room.
    let fields = ap (λ (fs : List Field). length fs) c.fields-fields.ensures in
    run_put c.args.schema.now.shape c.args.widths.now c.args.from.now.first.now (map bytes_of c.args.from.now.areas.now) c.args.first.now c.args.areas.now c.args.run c.loop-index.first c.loop-index.areas rows c.loop-index.index c.loop-index.before
    stands room (omega arith) c.loop-index.invariant
