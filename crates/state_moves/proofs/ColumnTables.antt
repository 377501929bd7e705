-- Types that are looked at where their rows stand packed, by their tables.
use Rattle.std.proofs.Common.{◌≡◌, ℕ, List, [], Option, Some, None, refl, sym, ap, ◌∙◌, subst}
use Rattle.std.specs.Prelude.{IfSome, IsSome, zip}
use Rattle.std.specs.FinMap.{find, get}
use Rattle.std.specs.Ordering.{nat_cmp}
use Rattle.object_codec.specs.declared.column.Column.{Column}
use Rattle.row_model.specs.declared.row.Row.{Row}
use Rattle.row_model.specs.Table.{RowMap}
use Rattle.column_rows.specs.declared.items.PackedItems.{PackedItems}
use Rattle.column_rows.specs.OneType.{AreListsIn, AreRunsIn, IsColumnIn}
use Rattle.row_model.specs.Before.{PastPart, left_rows, rows_before}
use Rattle.state_moves.proofs.PastRows.{live_kept}

-- where no row left, a row before is one now
module _ (now : RowMap) (part : PastPart) (none_left : part.gone ≡ []) where
  stays : (o : ℕ) (row : Row) → get (rows_before now part) o ≡ Some row → get now o ≡ Some row
  stays o row at =
      let none : find nat_cmp o (left_rows part) ≡ None = ap (λ (gone : List ℕ). find nat_cmp o (zip gone part.rows)) none_left in
      let kept = live_kept now part o none (subst IsSome (sym at) refl) in
      sym kept.1 ∙ at

  pub column_stays : (field : ℕ) (found : Option Column) → IfSome found (IsColumnIn now field) → IfSome found (IsColumnIn (rows_before now part) field)
  column_stays field None shown = shown
  column_stays field (Some column) shown = λ ordinal row at. shown ordinal row (stays ordinal row at)

  pub lists_stay : (found : Option PackedItems) → IfSome found (AreListsIn now) → IfSome found (AreListsIn (rows_before now part))
  lists_stay None shown = shown
  lists_stay (Some items) shown = λ ordinal row at. shown ordinal row (stays ordinal row at)

  pub runs_stay : (found : Option PackedItems) → IfSome found (AreRunsIn now) → IfSome found (AreRunsIn (rows_before now part))
  runs_stay None shown = shown
  runs_stay (Some items) shown = λ ordinal row at. shown ordinal row (stays ordinal row at)
