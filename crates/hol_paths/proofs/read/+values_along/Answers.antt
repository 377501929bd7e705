use Rattle.std.proofs.Common.{◌∙◌, List, ap, sym, arith, get_or}
use Rattle.schema_model.specs.declared.model.walk_path.WalkPart.TheVariants.{Field as FieldPart}
use Rattle.schema_model.specs.declared.schema.Schema.{Schema}
use Rattle.row_model.specs.Reach.{type_by}
use Rattle.hol_paths.proofs.Walks.{ends, goes_on, level_live}
use Rattle.hol_paths.proofs.read.+values_along.Goals as goal

pub returns-then-is_empty : goal.returns-then-is_empty
returns-then-is_empty g t c =
    ends (g.R.Rows.schemas c.args.rows.now) (g.R.Rows.table c.args.rows.now) c.args.type_index c.args.parts.now (FieldPart 0) c.args.level.now c.as_slice.result.now c.values_of.result
    c.in-len1-up.len_at_least c.as_slice.ensures c.if-is_empty.ensures c.values_of.ensures

pub values_along-requires : goal.values_along-requires
values_along-requires g t c = λ κs within.
    let S = g.R.Rows.schemas c.args.rows.now in
    let T = g.R.Rows.table c.args.rows.now in
    let leads = ap (λ (m : List Schema). type_by m c.args.type_index (get_or c.args.parts.now 0 (FieldPart 0))) (sym c.model.ensures.model) ∙ sym c.type_behind.ensures ∙ c.in-Some.is in
    let live = level_live S T c.model.ensures.fits c.requires.closed c.args.type_index c.in-Some.next (get_or c.args.parts.now 0 (FieldPart 0)) c.as_slice-2.result.now c.in_ok-named.named leads c.in_ok-named.ensures in
    ((let here = c.decreases in omega (arith, here)), (within, (c.requires.closed, live)))

pub returns : goal.returns
returns g t c =
    let S = g.R.Rows.schemas c.args.rows.now in
    let leads = ap (λ (m : List Schema). type_by m c.args.type_index (get_or c.args.parts.now 0 (FieldPart 0))) (sym c.model.ensures.model) ∙ sym c.type_behind.ensures ∙ c.in-Some.is in
    goes_on S (g.R.Rows.table c.args.rows.now) c.args.type_index c.args.parts.now (FieldPart 0) c.args.level.now c.as_slice-2.result.now c.values_along.result
    c.in-len1-up.len_at_least c.as_slice-2.ensures c.in-Some.next c.in_ok-named.named c.if-is_empty.ensures leads c.in_ok-named.ensures c.values_along.ensures
