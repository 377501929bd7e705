-- OBJECT rows as they are written: the values of a record, the number that an element holds for a value, and the bytes of a value.
use Rattle.std.specs.Prelude.{ℕ, ◌-◌, ◌^◌, List, [], flat_map, if◌then◌else◌, slice_get, Option, Some, None}
use Rattle.std.specs.Option.{option_to_list}
use Rattle.hol_varint.specs.Zigzag.{zigzag}
use Rattle.hol_varint.specs.TextUnits.{units_bytes}
use Rattle.row_model.specs.Row.{stored_value}
use Rattle.row_model.specs.declared.row.Value.{Value}
use Rattle.row_model.specs.declared.row.Row.{Row}

-- The values of a record, none of a row of another kind.
abbrev pub values_of_row : Row → List Value
values_of_row (Row.Object values) = values
values_of_row _ = []

-- The value at a field's index, none where there are too few.
abbrev pub value_at : ℕ → List Value → List Value
value_at index values = option_to_list (slice_get values index)

-- The values at a field's index in some records.
abbrev pub column : ℕ → List (List Value) → List Value
column index records = flat_map (value_at index) records

-- The number that an element holds for a value that a blob holds, none for null and for a value that has bytes: the zigzag number of an INT
-- or LONG, the ordinal of a REFERENCE, and 1 for true.
abbrev pub element_number : Value → Option ℕ
element_number (Value.Int number) = Some (zigzag number)
element_number (Value.Long number) = Some (zigzag number)
element_number (Value.Ref ordinal) = Some ordinal
element_number (Value.Bool flag) = Some (if flag then 1 else 0)
element_number _ = None

-- The same for any value: the least INT and the least LONG count as null.
abbrev pub stored_number : Value → Option ℕ
stored_number value = element_number (stored_value value)

-- The greatest number that an element holds for a value of this kind.
abbrev pub greatest_number : Value → ℕ
greatest_number (Value.Int number) = 2 ^ 32 - 2
greatest_number (Value.Ref ordinal) = 2 ^ 32 - 1
greatest_number _ = 2 ^ 64 - 2

-- The variable bytes of a value: those of the units of a STRING, and those of a BYTES.
abbrev pub value_bytes : Value → List ℕ
value_bytes (Value.Text units) = units_bytes units
value_bytes (Value.Bytes bytes) = bytes
value_bytes _ = []

-- The variable bytes of some values behind one another.
abbrev pub values_bytes : List Value → List ℕ
values_bytes values = flat_map value_bytes values
