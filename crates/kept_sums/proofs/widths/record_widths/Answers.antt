use Rattle.std.proofs.Common.{◌∙◌, ◌++◌, ◌<◌, ◌≤◌, ℕ, List, [], ap, append-nil, arith, drop, length, sym}
use Rattle.std.proofs.lemmas.List.{drop_all, get_or_read}
use Rattle.schema_model.specs.declared.schema.Field.{Field}
use Rattle.object_codec.specs.Stored.{column}
use Rattle.object_codec.specs.Widths.{records_of}
use Rattle.row_widths.proofs.RecordSpreads.{widths_from, widths_more}
use Rattle.kept_sums.proofs.Reading.{IsLast, field_bytes, field_most}
use Rattle.kept_sums.proofs.widths.record_widths.Goals as goal

pub loop-index-init : goal.loop-index-init
loop-index-init c = λ key rows are few. ap (λ (widths : List ℕ). widths ++ widths_from 0 (drop 0 c.args.fields.now) rows) c.new-widths.ensures

pub loop-index-preserved : goal.loop-index-preserved
loop-index-preserved c = λ key rows are few.
    let parts = c.args.parts.now in
    let fields = c.args.fields.now in
    let k = c.loop-index.index in
    let part = c.index-parts-index.result in
    let inside : k < length fields = omega arith in
    let long : k < length parts = omega (arith, inside, c.requires) in
    let read = get_or_read parts k part long c.index-parts-index.is (record { counts = []; bytes = 0 }) in
    let last : IsLast part.counts c.most.result = record { none = c.most.ensures.none; some = c.most.ensures.some } in
    rw c.in_ok-push.ensures.ok
    (widths_more fields rows k c.index-fields-index.result c.loop-index.widths c.field_width.result (c.loop-index.invariant key rows are few) inside c.index-fields-index.is
    (c.field_width.ensures (column k (records_of rows)) (field_most key fields rows parts are few k inside part read c.most.result last) (field_bytes key fields rows parts are few k inside part read c.bytes.result c.bytes.ensures.is)))

pub returns : goal.returns
returns c = λ key rows are few.
    let fields = c.args.fields.now in
    let k = c.loop-index.index in
    let past : length fields ≤ k = omega arith in
    sym (append-nil c.loop-index.widths) ∙ ap (λ (rest : List Field). c.loop-index.widths ++ widths_from k rest rows) (sym (drop_all k fields past)) ∙ c.loop-index.invariant key rows are few
