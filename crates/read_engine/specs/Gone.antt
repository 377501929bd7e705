-- The rows that left in the last step.
use Rattle.std.specs.Prelude.{◌≡◌, ◌↔◌, ℕ, List, Contains}
use Rattle.row_model.specs.Row.{Rises}
use Rattle.row_model.specs.Before.{HasBefore, PastPart, table_before}
use Rattle.row_model.specs.Table.{IsLive}
use Rattle.read_engine.specs.Position.{Position, rows_now}

-- These are the ordinals of a type that were live in the state before and are not live now, rising.
pub record AreGone (position : Position) (type_index : ℕ) (ordinals : List ℕ) : Type 0 where
  pub rising : Rises ordinals
  pub are : (ordinal : ℕ) → Contains ordinals ordinal ↔ (IsLive position.before type_index ordinal × ¬ IsLive (rows_now position) type_index ordinal)

-- This is what the last step changed of each type: it fits the rows now, and gives those before.
pub record HasLeft (past : List PastPart) (position : Position) : Type 0 where
  pub fits : HasBefore position.schemas (rows_now position) past
  pub before : table_before (rows_now position) past ≡ position.before
