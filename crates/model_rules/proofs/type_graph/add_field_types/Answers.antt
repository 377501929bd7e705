use Rattle.std.proofs.Common.{sym, ◌∙◌, arith, length, refl}
use Rattle.std.specs.BTreeMap.{get_by_text}
use Rattle.std.proofs.lemmas.Option.{slice_get_read}
use Rattle.model_rules.proofs.NamedTypes.{known_more, row_more, unknown_at}
use Rattle.model_rules.proofs.type_graph.add_field_types.Goals as goal

pub returns-then-not-branch-clause-known : goal.returns-then-not-branch-clause-known
returns-then-not-branch-clause-known c =
    let fields = c.args.fields.now in
    let at = slice_get_read fields (length fields) c.loop-field.field-index c.field-item.result refl (omega arith) c.field-item.is in
    sym (unknown_at (get_by_text c.args.index.now) fields c.loop-field.field-index c.field-item.result at (sym c.in_ok-add_field_type.ensures.known ∙ c.if-not-branch.true))

pub loop-field-preserved : goal.loop-field-preserved
loop-field-preserved c =
    let fields = c.args.fields.now in
    let find = get_by_text c.args.index.now in
    let at = slice_get_read fields (length fields) c.loop-field.field-index c.field-item.result refl (omega arith) c.field-item.is in (
      known_more find fields c.loop-field.field-index c.field-item.result at c.loop-field.invariant.0 (sym c.in_ok-add_field_type.ensures.known ∙ c.if-not-branch.false),
      row_more find fields c.loop-field.field-index c.field-item.result at c.args.row.now c.loop-field.row c.add_field_type.new.row c.loop-field.invariant.1 c.in_ok-add_field_type.ensures.added,
    )
