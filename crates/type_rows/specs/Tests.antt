-- The first fault of the rows of a type: of their ordinals, their places, their widths, the limit on words and the limit on bytes, tried one after the other.
use Rattle.std.specs.Prelude.{◌<◌, ℕ, []}
use Rattle.std.specs.FinMap.{keys, values}
use Rattle.schema_model.specs.declared.schema.Shape.{Shape}
use Rattle.schema_model.specs.declared.reason.Reason.{Reason}
use Rattle.schema_model.specs.declared.limit.Limit.{Limit}
use Rattle.schema_model.specs.declared.limit.Limit.TheVariants.{Words, Bytes}
use Rattle.schema_model.specs.Limit.{number_of_limit}
use Rattle.row_model.specs.Table.{RowMap}
use Rattle.type_rows.specs.declared.fault.RowFault.{RowFault}
use Rattle.type_rows.specs.Layout.{Layout, counted_words}
use Rattle.type_rows.specs.Holds.{HoldsRows}
use Rattle.type_rows.specs.WordsHeld.{bytes_held}
use Rattle.type_rows.specs.Widths.{FirstUnheld}

-- What a part of a blob leads to, and what may be wrong with it before its rows are known.
pub record Tests : Type 1 where
  -- the ordinal is the first bad one
  pub BadOrdinal : ℕ → Type 0
  -- no ordinal is bad
  pub Ordered : Type 0
  -- the place of the ordinal is the first that spells no row, for this reason
  pub BadPlace : Reason → ℕ → Type 0
  -- it leads to these rows, whether the widths hold them or not
  pub Leads : RowMap → Type 0

-- The words of rows at a layout pass their limit; of the record of an OBJECT so many bits are counted.
abbrev pub PassWords : Shape → ℕ → Layout → RowMap → Type 0
PassWords shape own layout rows = number_of_limit Words < counted_words shape own layout (values rows)

-- The variable bytes of rows pass their limit.
abbrev pub PassBytes : RowMap → Type 0
PassBytes rows = number_of_limit Bytes < bytes_held (values rows)

-- It leads to these rows, and the widths hold them, laid out one behind the other.
pub record LeadsHeld (shape : Shape) (layout : Layout) (tests : Tests) (rows : RowMap) : Type 0 where
  pub leads : tests.Leads rows
  pub held : HoldsRows shape layout.widths [] (values rows)

-- The first fault is that an ordinal fails for this reason.
abbrev pub FailsAt : Shape → Layout → Tests → Reason → ℕ → Type 0
FailsAt shape layout tests Reason.BadOrdinals ordinal = tests.BadOrdinal ordinal
FailsAt shape layout tests Reason.BadWidth ordinal = (rows : RowMap) × tests.Leads rows × FirstUnheld shape layout.widths (keys rows) (values rows) ordinal
FailsAt shape layout tests reason ordinal = tests.Ordered × tests.BadPlace reason ordinal

-- The first fault is that the rows pass a limit.
abbrev pub FailsLimit : Shape → ℕ → Layout → Tests → Limit → Type 0
FailsLimit shape own layout tests Words = (rows : RowMap) × LeadsHeld shape layout tests rows × PassWords shape own layout rows
FailsLimit shape own layout tests Bytes = (rows : RowMap) × LeadsHeld shape layout tests rows × (PassWords shape own layout rows → ⊥) × PassBytes rows
FailsLimit shape own layout tests _ = ⊥

-- The first fault; want of memory may come in place of any answer.
abbrev pub FailsFirst : Shape → ℕ → Layout → Tests → RowFault → Type 0
FailsFirst shape own layout tests (RowFault.At reason ordinal) = FailsAt shape layout tests reason ordinal
FailsFirst shape own layout tests (RowFault.Limit limit) = FailsLimit shape own layout tests limit
FailsFirst shape own layout tests RowFault.Memory = Unit {0}
