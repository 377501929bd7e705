use Rattle.std.proofs.Common.{◌≡◌, ◌≤◌, ◌+◌, ◌∙◌, length, take, get_or, sym, ap, arith}
use Rattle.schema_model.specs.declared.schema.Field.{Field}
use Rattle.std.specs.Prelude.{sum}
use Rattle.std.proofs.lemmas.List.Sums.{sum_by_more_le}
use Rattle.std.proofs.lemmas.Slice.Zip.{AllZip-long}
use Rattle.object_codec.specs.ObjectPlace.{IsFieldWidth}
use Rattle.object_codec.proofs.FieldWidths.{fields_small}
use Rattle.column_rows.proofs.Spelled.{has_value_of}
use Rattle.std.proofs.lemmas.List.{length-take}
use Rattle.object_codec.specs.Bytes.{bytes_of}
use Rattle.column_rows.proofs.made.column_of.Goals as goal

pub overflow_cast-size : goal.overflow_cast-size
overflow_cast-size c = omega (arith, c.total_width-size.ensures.total, fields_small IsFieldWidth (λ field width is. is.0) c.args.fields.now c.args.widths.now c.requires.few c.requires.wide)

pub slice_bounds-total_width-end : goal.slice_bounds-total_width-end
slice_bounds-total_width-end c = let long = AllZip-long IsFieldWidth c.args.fields.now c.args.widths.now c.requires.wide in omega (arith, length-take c.args.index c.args.widths.now)

pub overflow_cast-before : goal.overflow_cast-before
overflow_cast-before c =
    let long : length c.args.widths.now ≡ length c.args.fields.now = AllZip-long IsFieldWidth c.args.fields.now c.args.widths.now c.requires.wide in
    let front : sum (take c.args.index c.args.widths.now) + get_or c.args.widths.now c.args.index 0 ≤ sum c.args.widths.now = sum_by_more_le (λ width. width) c.args.widths.now c.args.index 0 (omega arith) in
    omega (arith, c.total_width-before.ensures.total, fields_small IsFieldWidth (λ field width is. is.0) c.args.fields.now c.args.widths.now c.requires.few c.requires.wide)

pub bounds-widths-index : goal.bounds-widths-index
bounds-widths-index c = omega (arith, AllZip-long IsFieldWidth c.args.fields.now c.args.widths.now c.requires.wide)

pub returns : goal.returns
returns c = λ place areas values holds area spelled.
    (let m = c.made.ensures in
    has_value_of c.made.result c.args.fields.now c.args.widths.now c.args.first.now areas place c.args.index c.index-fields-index.result values (bytes_of c.args.area)
    holds c.requires.there c.index-fields-index.is (m.kind ∙ ap (λ (f : Field). f.kind) (sym c.index-fields-index.is)) m.width (m.before ∙ c.total_width-before.ensures.total) (m.size ∙ c.total_width-size.ensures.total) m.first m.area area spelled)
