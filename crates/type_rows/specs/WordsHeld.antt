-- How many bytes the rows of a type take.
use Rattle.std.specs.Prelude.{ℕ, List, length, slice_get, sum_by}
use Rattle.std.specs.Option.{option_map_or}
use Rattle.hol_varint.specs.TextUnits.{units_bytes}
use Rattle.row_model.specs.declared.row.Value.{Value}
use Rattle.row_model.specs.declared.row.Row.{Row}

-- The variable bytes of a value: those of a STRING or BYTES.
abbrev pub value_bytes : Value → ℕ
value_bytes (Value.Text units) = length (units_bytes units)
value_bytes (Value.Bytes bytes) = length bytes
value_bytes _ = 0

-- The variable bytes of a row.
abbrev pub row_bytes : Row → ℕ
row_bytes (Row.Object values) = sum_by value_bytes values
row_bytes _ = 0

-- The variable bytes of one field of a row.
abbrev pub part_bytes : ℕ → Row → ℕ
part_bytes field (Row.Object values) = option_map_or value_bytes (slice_get values field) 0
part_bytes field _ = 0

-- The variable bytes of one field in some rows: its end offset in the last of them, where they are laid out one after another.
abbrev pub field_bytes : ℕ → List Row → ℕ
field_bytes field rows = sum_by (part_bytes field) rows

-- The bytes of a state: the variable bytes of its live rows.
abbrev pub bytes_held : List Row → ℕ
bytes_held rows = sum_by row_bytes rows
