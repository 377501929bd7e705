-- What the writer of a blob chooses for an OBJECT type: a width for each field, over the rows of two states; and the bytes of a state.
use Rattle.std.specs.Prelude.{ℕ, ◌+◌, List, [], ◌∷◌, flat_map, map, length, max, min, slice_get}
use Rattle.std.specs.List.{enumerate_from}
use Rattle.std.specs.Option.{option_map_or}
use Rattle.bit_array.specs.Digits.{digit_count}
use Rattle.row_model.specs.BothStates.{rows_in, rows_from}
use Rattle.schema_model.specs.Limit.{number_of_limit}
use Rattle.schema_model.specs.Parts.{fields_of}
use Rattle.row_model.specs.Table.{Table}
use Rattle.schema_model.specs.declared.limit.Limit.{Limit}
use Rattle.schema_model.specs.declared.schema.Field.{Field}
use Rattle.schema_model.specs.declared.schema.FieldKind.{FieldKind}
use Rattle.schema_model.specs.declared.schema.Schema.{Schema}
use Rattle.row_model.specs.declared.row.Row.{Row}
use Rattle.row_model.specs.declared.row.Value.{Value}
use Rattle.object_codec.specs.Stored.{values_of_row, column, stored_number, values_bytes}

-- The fields of a type, none where there is no such type.
abbrev pub fields_at : List Schema → ℕ → List Field
fields_at schemas type_index = option_map_or fields_of (slice_get schemas type_index) []

-- How many bits the element of a value takes: the digits of the number after its own, so that it is not all ones; 1 for null.
abbrev pub value_bits : Value → ℕ
value_bits value = option_map_or (λ number. digit_count (number + 1)) (stored_number value) 1

-- The most bits that one of these values takes, 0 where there is none.
abbrev pub most_bits : List Value → ℕ
most_bits [] = 0
most_bits (value ∷ rest) = max (value_bits value) (most_bits rest)

-- How many bytes these values have together.
abbrev pub byte_count : List Value → ℕ
byte_count values = length (values_bytes values)

-- The width of a field with these values. A STRING or BYTES holds each end offset, and a null bit above it.
abbrev pub width_for : FieldKind → List Value → ℕ
width_for FieldKind.Boolean [] = 0
width_for FieldKind.Boolean (value ∷ rest) = 2
width_for FieldKind.Text values = digit_count (byte_count values + 1) + 1
width_for FieldKind.Bytes values = digit_count (byte_count values + 1) + 1
width_for _ values = most_bits values

-- The records of some rows.
abbrev pub records_of : List Row → List (List Value)
records_of rows = map values_of_row rows

-- The widths of fields: for each the width of the values that these rows have at its index.
abbrev pub widths_for : List Field → List Row → List ℕ
widths_for fields rows = map (λ part. width_for part.1.kind (column part.0 (records_of rows))) (enumerate_from 0 fields)

-- The variable bytes of some rows.
abbrev pub rows_bytes : List Row → List ℕ
rows_bytes rows = flat_map (λ row. values_bytes (values_of_row row)) rows

-- The live rows of a type, by rising ordinal.
abbrev pub live_rows : Table → ℕ → List Row
live_rows table type_index = rows_from 0 (rows_in table type_index)

-- The number of these bytes, or one more than the limit where they are more.
abbrev pub bytes_for : List Row → ℕ
bytes_for rows = min (length (rows_bytes rows)) (number_of_limit Limit.Bytes + 1)
