use Rattle.std.proofs.Common.{◌≡◌, ◌∷◌, [], ◌++◌, List, Some, drop, length, take}
use Rattle.std.specs.List.{AllZip}
use Rattle.serde_json.specs.Data.{Data}
use Rattle.row_model.specs.declared.row.Row.{Row}
use Rattle.row_model.specs.declared.row.Value.{Value}
use Rattle.row_model.specs.Table.{row_at}
use Rattle.json_rows.specs.LineForm.{text_at}
use Rattle.json_rows.specs.StoredRow.{IsValueData}
use Rattle.json_rows.proofs.line.put_columns.Given as goal

-- the fields that are left make the text whole
abbrev pub invariant-loop-lead : goal.invariant-loop-lead
invariant-loop-lead g l =
    ((values : List Value) → row_at (g.R.Rows.table l.rows) l.type_index l.ordinal ≡ Some (Row.Object values) → length values ≡ length l.columns
    → (printed : List Data) → AllZip IsValueData values printed
    → l.out.items ++ text_at (drop l.lead-index l.leads) printed (125 ∷ []) ≡ l.fn.out.items ++ 123 ∷ text_at l.leads printed (125 ∷ []))
    × (take (length l.fn.out.items) l.out.items ≡ l.fn.out.items)
