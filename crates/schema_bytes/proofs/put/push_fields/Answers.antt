use Rattle.std.proofs.Common.{◌∙◌, ap, [], ◌∷◌, ◌++◌, ◌/◌, ◌%◌, flat_map}
use Rattle.schema_model.specs.Schema.{field_bytes}
use Rattle.schema_bytes.proofs.Fronts.{kept_twice, kept_behind}
use Rattle.schema_bytes.proofs.Pieces.{piece_pushed, pieces_done}
use Rattle.schema_bytes.proofs.put.push_fields.Goals as goal

pub returns-in_err-push_field-clause-kept : goal.returns-in_err-push_field-clause-kept
returns-in_err-push_field-clause-kept c = kept_behind _ _ _ _ _ _ c.in_ok-extend_from_slice.ensures.items c.loop-field.invariant c.push_field.ensures.kept

pub loop-field-preserved : goal.loop-field-preserved
loop-field-preserved c =
    piece_pushed field_bytes c.as_slice-field-items.result.now c.loop-field.field-index c.field-item.result c.extend_from_slice.new.self.items c.loop-field.out.items c.push_field.new.out.items
    c.loop-field-test.true c.field-item.is c.loop-field.invariant c.in_ok-push_field.ensures.ok

pub returns-clause-ok : goal.returns-clause-ok
returns-clause-ok c =
    let count = c.len-count.result in
    pieces_done field_bytes c.args.fields.now c.as_slice-field-items.result.now c.loop-field.field-index c.args.out.now.items (count / 256 ∷ count % 256 ∷ []) c.extend_from_slice.new.self.items c.loop-field.out.items
    c.loop-field-test.false c.as_slice-field-items.ensures c.in_ok-extend_from_slice.ensures.items c.loop-field.invariant
    ∙ ap (λ n. c.args.out.now.items ++ (n / 256 ∷ n % 256 ∷ flat_map field_bytes c.args.fields.now)) c.len-count.ensures

pub returns-clause-kept : goal.returns-clause-kept
returns-clause-kept c = kept_twice _ _ _ _ _ c.in_ok-extend_from_slice.ensures.items c.loop-field.invariant
