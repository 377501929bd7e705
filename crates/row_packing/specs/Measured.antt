-- What is measured of the rows of a type over an old and a new state.
use Rattle.std.specs.Prelude.{◌≡◌, ℕ, List, length}
use Rattle.std.specs.List.{AllZip, range_with_len}
use Rattle.schema_model.specs.declared.schema.Schema.{Schema}
use Rattle.schema_model.specs.declared.schema.Shape.{Shape}
use Rattle.row_model.specs.Table.{Table}
use Rattle.row_model.specs.BothStates.{rows_of_both}
use Rattle.object_codec.specs.Widths.{live_rows, bytes_for}
use Rattle.row_packing.specs.declared.measured.Held.{Held}
use Rattle.row_packing.specs.declared.measured.Measured.{Measured}
use Rattle.row_packing.specs.Chosen.{shape_at, chosen_total, KeepsCounts, IsChosen}

-- What the rows of a type hold in one state: its elements or buckets, and its variable bytes, each one more than its limit where it is more.
pub record IsHeld (shape : Shape) (table : Table) (type_index : ℕ) (held : Held) : Type 0 where
  pub items : held.items ≡ chosen_total shape (live_rows table type_index)
  pub bytes : held.bytes ≡ bytes_for (live_rows table type_index)

-- What the rows of each state hold, the total of both, and what is chosen for both where they keep the limits that are tried before a type is laid out.
pub record IsMeasured (shape : Shape) (old new : Table) (type_index : ℕ) (measured : Measured) : Type 0 where
  pub before : IsHeld shape old type_index measured.old
  pub after : IsHeld shape new type_index measured.new
  pub total : measured.chosen.total ≡ chosen_total shape (rows_of_both old new type_index)
  pub chosen : KeepsCounts shape old new type_index → IsChosen shape old new type_index measured.chosen

-- There is what is measured of each type, in model order.
abbrev pub AreMeasured : List Schema → Table → Table → List Measured → Type 0
AreMeasured schemas old new measured = AllZip (λ type_index one. IsMeasured (shape_at schemas type_index) old new type_index one) (range_with_len 0 (length schemas)) measured
