use Rattle.std.proofs.Common.{◌≡◌, ℕ, [], ◌∷◌, List, Some, length, length-append, slice_get, sym, ap, subst, arith}
use Rattle.object_codec.specs.declared.column.Column.{Column}
use Rattle.column_rows.specs.Columns.{IsColumnOf}
use Rattle.json_rows.proofs.Stands.{each_more}
use Rattle.json_rows.proofs.standing.columns_of.Goals as goal

pub loop-field-preserved : goal.loop-field-preserved
loop-field-preserved g c =
    let table = g.R.Rows.table c.args.rows.now in
    let Is : ℕ → Column → Type 0 = λ field column. IsColumnOf table c.args.type_index field column in
    let column = c.in-Some.column in
    let before = c.loop-field.columns.items in
    let last : Is (length before) column = subst (λ field. Is field column) (sym c.loop-field.invariant.1) c.in-Some.ensures in
    let each = each_more Is before column c.loop-field.invariant.0 last in (
      subst (λ (columns : List Column). (k : ℕ) (at : Column) → slice_get columns k ≡ Some at → Is k at) (sym c.in_ok-push.ensures.items) each,
      omega (arith, ap length c.in_ok-push.ensures.items, length-append before (column ∷ []), c.loop-field.invariant.1),
    )
