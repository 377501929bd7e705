-- The lines of rows: each row as a JSON object, its line, and the lines of all rows of a table.
use Rattle.std.specs.Prelude.{◌≡◌, ◌<◌, ◌≤◌, ℕ, List, [], ◌∷◌, ◌++◌, length, take, map, Option, Result, Ok, Err}
use Rattle.std.specs.List.{AllZip, concat, flat_map, zip}
use Rattle.std.specs.FinMap.{entries}
use Rattle.std.specs.Io.KnownBytes.{Appends}
use Rattle.serde_json.specs.Data.{Data}
use Rattle.serde_json.specs.Written.{compact_text}
use Rattle.row_model.specs.declared.row.Row.{Row}
use Rattle.schema_model.specs.declared.schema.Schema.{Schema}
use Rattle.row_model.specs.Table.{RowMap, Table}
use Rattle.json_rows.specs.RowLine.{row_data}
use Rattle.json_rows.specs.StoredRow.{IsRowData}
use Rattle.hollow_top.specs.declared.stop.Stop.{Stop}
use Rattle.hollow_top.specs.declared.stop.Stop.TheVariants.{Memory, Sink, Store as StoreFailed}

-- A row under its ordinal, with the schema of its type.
abbrev pub Listed : Type 0
Listed = Schema × (ℕ × Row)

-- The line is that of this row: its JSON text without spaces, and a newline.
abbrev pub IsRowLine : Listed → List ℕ → Type 0
IsRowLine listed line =
    (printed : Data) × IsRowData listed.0.shape listed.1.1 printed
    × (line ≡ compact_text (row_data listed.0.name listed.1.0 printed) ++ 10 ∷ [])

-- The text is that of the lines of these rows, in their order.
abbrev pub AreLinesOf : List Listed → List ℕ → Type 0
AreLinesOf rows text = (lines : List (List ℕ)) × AllZip IsRowLine rows lines × (text ≡ concat lines)

-- the rows of a type, ordinals rising
abbrev pub rows_of_type : Schema × RowMap → List Listed
rows_of_type typed = map (λ entry. (typed.0, entry)) (entries typed.1)

-- the rows of a table, types in model order, and the ordinals of each type rising
abbrev pub rows_in_order : List Schema → Table → List Listed
rows_in_order schemas table = flat_map rows_of_type (zip schemas table)

-- The text has a line for each row of a table, in order.
abbrev pub AreRowLines : List Schema → Table → List ℕ → Type 0
AreRowLines schemas table text = AreLinesOf (rows_in_order schemas table) text

-- What writing the lines of rows leaves of the sink: all of them, or where the sink failed a part of their text, or where
-- memory was refused the front of it.
abbrev pub LeavesLines : List Listed → Option (List ℕ) → Option (List ℕ) → Result Unit Stop → Type 0
LeavesLines rows before after (Ok done) = (text : List ℕ) × AreLinesOf rows text × Appends before after text
LeavesLines rows before after (Err Sink) =
    (text : List ℕ) × (count : ℕ) × AreLinesOf rows text × (count < length text) × Appends before after (take count text)
LeavesLines rows before after (Err Memory) =
    (text : List ℕ) × (count : ℕ) × AreLinesOf rows text × (count ≤ length text) × Appends before after (take count text)
LeavesLines rows before after (Err StoreFailed) = ⊥
