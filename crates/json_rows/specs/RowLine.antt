-- The line of a stored row, and what is put behind a text for it.
use Rattle.std.specs.Prelude.{◌≡◌, ℕ, List, [], ◌∷◌, ◌++◌, codes}
use Rattle.std.specs.List.{AllZip}
use Rattle.serde_json.specs.Data.{Data, number, unsigned, string, object, no_members, member}
use Rattle.serde_json.specs.Written.{compact_text}
use Rattle.row_model.specs.declared.row.Row.{Row}
use Rattle.row_model.specs.declared.row.Value.{Value}
use Rattle.schema_model.specs.declared.schema.Schema.{Schema}
use Rattle.schema_model.specs.declared.schema.Shape.{Shape}
use Rattle.schema_model.specs.Parts.{shape_fields}
use Rattle.row_model.specs.Row.{FitsShape}
use Rattle.json_rows.specs.FieldOrder.{Order}
use Rattle.json_rows.specs.LineForm.{AreLeads, text_at}
use Rattle.json_rows.specs.StoredRow.{IsRowData, IsValueData, numbers_data, pairs_data}

-- the JSON object of a row: its ordinal, the row as it prints, and the name of its type
abbrev pub row_data : List ℕ → ℕ → Data → Data
row_data name ordinal printed = object
    (member (codes "ordinal") (number (unsigned ordinal))
    (member (codes "row") printed
    (member (codes "type") (string name) no_members)))

-- The line is that of a row of a type: its JSON text without spaces, and a newline.
abbrev pub IsLineOf : Schema → ℕ → Row → List ℕ → Type 0
IsLineOf schema ordinal row line =
    (printed : Data) × IsRowData schema.shape row printed × (line ≡ compact_text (row_data schema.name ordinal printed) ++ 10 ∷ [])

-- The text of the data is put behind what stood there.
abbrev pub Puts : Data → List ℕ → List ℕ → Type 0
Puts printed old new = new ≡ old ++ compact_text printed

-- Whatever a thing prints as, the text of that is put.
abbrev pub PutsAll : (Data → Type 0) → List ℕ → List ℕ → Type 0
PutsAll Prints old new = (printed : Data) → Prints printed → Puts printed old new

-- the same of an array of numbers, and of one of pairs
abbrev pub PutsItems : List ℕ → List ℕ → List ℕ → Type 0
PutsItems numbers old new = Puts (numbers_data numbers) old new

abbrev pub PutsPairs : List (ℕ × ℕ) → List ℕ → List ℕ → Type 0
PutsPairs pairs old new = Puts (pairs_data pairs) old new

-- the same of a record, whose values stand behind these leads
abbrev pub PutsRecord : Order → List Value → List ℕ → List ℕ → Type 0
PutsRecord leads values old new =
    (printed : List Data) → AllZip IsValueData values printed → new ≡ old ++ 123 ∷ text_at leads printed (125 ∷ [])

-- the same of a row, in whatever shape it fits whose fields have these leads
abbrev pub PutsRow : Order → Row → List ℕ → List ℕ → Type 0
PutsRow leads row old new =
    (shape : Shape) → AreLeads (shape_fields shape) leads → FitsShape shape row → PutsAll (IsRowData shape row) old new

-- the values of a record; the other rows have none
abbrev pub values_of : Row → List Value
values_of (Row.Object values) = values
values_of _ = []
