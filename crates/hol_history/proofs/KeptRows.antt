-- What a look-up of what is kept of a row tells of the row before a step.
use Rattle.std.proofs.Common.{◌≡◌, ◌<◌, ℕ, List, length, Some, None}
use Rattle.std.specs.Borrow.{Bor}
use Rattle.schema_model.specs.declared.schema.Schema.{Schema}
use Rattle.row_model.specs.declared.row.Row.{Row}
use Rattle.row_model.specs.Table.{Table, row_at}
use Rattle.hol_history.specs.declared.history.Kept.TheVariants.{Absent, Left, Untouched}
use Rattle.hol_history.specs.History.{PastStep, StandsOn}
use Rattle.hol_history.specs.Kept.{TellsKept}
use Rattle.hol_history.specs.Then.{table_at}
use Rattle.hol_history.proofs.OldTables.{absent_then, left_then, untouched_row}

module _ (schemas : List Schema) (now : Table) (steps : List PastStep) (from t o : ℕ) (inside : from < length steps) (stands : StandsOn schemas now steps) where
  pub left_row : (row : Bor Row) → TellsKept steps from t o (Left row) → row_at (table_at now steps from) t o ≡ Some row.now
  left_row row tells = left_then schemas now steps from t o tells.0 tells.1 tells.2 inside stands tells.3 row.now tells.4

  pub absent_row : TellsKept steps from t o Absent → row_at (table_at now steps from) t o ≡ None
  absent_row tells = absent_then schemas now steps from t o tells.0 tells.1 tells.2 inside stands tells.3 tells.4

  pub same_row : TellsKept steps from t o Untouched → row_at (table_at now steps from) t o ≡ row_at now t o
  same_row tells = untouched_row schemas now steps from t o inside stands tells
