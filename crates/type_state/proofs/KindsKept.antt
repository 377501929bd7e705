-- What is kept of rows, where there are none.
use Rattle.std.proofs.Common.{◌≡◌, ℕ, List, [], None, Some, ap, sym, ◌∙◌, subst}
use Rattle.std.specs.Ordering.{nat_cmp}
use Rattle.std.specs.FinMap.{empty, entries, get-empty, values}
use Rattle.std.specs.Map.{values_of}
use Rattle.schema_model.specs.declared.schema.Shape.{Shape}
use Rattle.row_model.specs.Table.{RowMap}
use Rattle.row_model.specs.declared.row.Row.{Row}
use Rattle.type_rows.specs.declared.totals.Totals.{Totals}
use Rattle.type_rows.specs.Holds.{HoldsRows}
use Rattle.type_rows.specs.Ends.{AreOfKind}
use Rattle.type_rows.specs.Totals.{AreTotals}
use Rattle.type_rows.proofs.Entries.{no_entry}

-- There are none in an empty map.
pub empty_kinds : (shape : Shape) (rows : RowMap) → rows ≡ empty → AreOfKind shape rows
empty_kinds shape rows is = subst (AreOfKind shape) (sym is) (λ o row at. let none : None ≡ Some row = sym (get-empty nat_cmp o) ∙ at in absurd cc)

pub empty_totals : (rows : RowMap) (totals : Totals) → rows ≡ empty → AreTotals [] totals → AreTotals (values rows) totals
empty_totals rows totals is are = subst (λ (es : List (ℕ × Row)). AreTotals (values_of es) totals) (sym (ap entries is ∙ no_entry)) are

pub empty_held : (shape : Shape) (widths : List ℕ) (rows : RowMap) → rows ≡ empty → HoldsRows shape widths [] (values rows)
empty_held shape widths rows is = subst (λ (es : List (ℕ × Row)). HoldsRows shape widths [] (values_of es)) (sym (ap entries is ∙ no_entry)) tt
