use Rattle.std.proofs.Common.{arith, ap, sym, ◌∙◌, ◌≡◌, Some, List}
use Rattle.std.specs.Prelude.{slice_index_or}
use Rattle.schema_model.specs.declared.schema.Schema.{Schema}
use Rattle.row_model.specs.Key.{ordinal_in, type_behind, value_in}
use Rattle.row_model.specs.Table.{IsLive, row_at}
use Rattle.key_index.proofs.KeptKeys.{live_type, named_live}
use Rattle.key_index.proofs.read.+value_along.Goals as goal

pub value_along-requires : goal.value_along-requires
value_along-requires g t c = λ κs within.
    let S = g.R.Rows.schemas c.args.rows.now in
    let T = g.R.Rows.table c.args.rows.now in
    let field = slice_index_or c.args.fields.now 0 0 in
    let target : type_behind S c.args.type_index field ≡ Some c.in-Ref-Some.next =
    ap (λ (m : List Schema). type_behind m c.args.type_index field) (sym c.model.ensures.model) ∙ sym c.type_behind.ensures ∙ c.in-Ref-Some.is-1 in
    let names : ordinal_in (value_in (row_at T c.args.type_index c.args.ordinal) field) ≡ Some c.in-Ref-Some.named =
    ap ordinal_in (sym c.in_ok-value.ensures ∙ c.in-Some.is ∙ ap Some c.in-Ref-Some.is-0) in
    let live : IsLive T c.in-Ref-Some.next c.in-Ref-Some.named = named_live S T c.args.type_index c.args.ordinal c.requires.closed field c.in-Ref-Some.next c.in-Ref-Some.named target names in
    ((let here = c.decreases in omega (arith, here)), (within, (live_type S T c.in-Ref-Some.next c.in-Ref-Some.named c.model.ensures.fits live, (c.requires.closed, live))))
