-- A row that fits its type has a line.
use Rattle.std.proofs.Common.{ℕ, List, [], ◌∷◌, ◌++◌, refl}
use Rattle.serde_json.specs.Written.{compact_text}
use Rattle.row_model.specs.declared.row.Row.{Row}
use Rattle.schema_model.specs.declared.schema.Schema.{Schema}
use Rattle.row_model.specs.Row.{FitsShape}
use Rattle.json_rows.specs.RowLine.{row_data}
use Rattle.json_rows.proofs.Printed.{row_prints}
use Rattle.hollow_top.specs.RowLines.{IsRowLine}

pub row_has_line : (schema : Schema) (ordinal : ℕ) (row : Row) → FitsShape schema.shape row → (line : List ℕ) × IsRowLine (schema, (ordinal, row)) line
row_has_line schema ordinal row fits =
    let p = row_prints schema.shape row fits in
    (compact_text (row_data schema.name ordinal p.0) ++ 10 ∷ [], (p.0, p.1, refl))
