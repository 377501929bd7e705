-- Rows seen through another model: what is seen of a state whose model has other fields and other types. Types and fields are found by their names alone,
-- with no look at their kinds.
use Rattle.std.specs.Prelude.{◌≡◌, ℕ, List, [], ◌∷◌, Option, Some, map, option_and_then, if◌then◌else◌, slice_get, slice_index_or}
use Rattle.std.specs.Str.{bytes_eq}
use Rattle.std.specs.Option.{option_map_or}
use Rattle.std.specs.Ordering.{nat_cmp}
use Rattle.std.specs.FinMap.{empty, entries, from_entries}
use Rattle.schema_model.specs.declared.schema.Field.{Field}
use Rattle.schema_model.specs.declared.schema.Schema.{Schema}
use Rattle.schema_model.specs.declared.schema.Shape.{Shape}
use Rattle.schema_model.specs.Parts.{index_of_type, shape_fields}
use Rattle.row_model.specs.declared.row.Row.{Row}
use Rattle.row_model.specs.declared.row.Value.{Value}
use Rattle.row_model.specs.BothStates.{rows_in}
use Rattle.row_model.specs.Table.{RowMap, Table}

-- the value of the field of this name, null where no field has it
unfoldable pub value_named : List Field → List Value → List ℕ → Value
value_named (field ∷ fields) (value ∷ values) name = if bytes_eq field.name name then value else value_named fields values name
value_named [] values name = Value.Null
value_named (field ∷ fields) [] name = Value.Null

-- the values of a record of these fields for other fields, by their names
abbrev pub seen_values : List Field → List Field → List Value → List Value
seen_values own mine values = map (λ field. value_named own values field.name) mine

-- a row of one shape as one of another shape: a record has the values of the other fields, and any other row stays
abbrev pub seen_row : Shape → Shape → Row → Row
seen_row own mine (Row.Object values) = Row.Object (seen_values (shape_fields own) (shape_fields mine) values)
seen_row own mine row = row

-- the rows of a type, each seen so
abbrev pub seen_map : Shape → Shape → RowMap → RowMap
seen_map own mine rows = from_entries (map (λ entry. (entry.0, seen_row own mine entry.1)) (entries rows))

-- the rows of the type of this schema's name, none where the model of the table has no such type
abbrev pub seen_type : List Schema → Table → Schema → RowMap
seen_type own table schema =
    option_map_or (λ type_index. seen_map (slice_index_or own type_index schema).shape schema.shape (rows_in table type_index)) (index_of_type own schema.name) (empty {R = nat_cmp})

-- a table of one model, seen through another one: it has the types of the other model
abbrev pub view : List Schema → List Schema → Table → Table
view mine own table = map (seen_type own table) mine

-- the index, in the model of a table, of the type that a type of the other model is, if there is one
abbrev pub place_in : List Schema → List Schema → ℕ → Option ℕ
place_in own mine type_index = option_and_then (λ schema. index_of_type own schema.name) (slice_get mine type_index)
