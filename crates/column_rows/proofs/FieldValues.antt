-- Lemmas on the value of a field, looked at where it stands, and copied.
use Rattle.std.proofs.Common.{◌≡◌, ℕ, List, Option, Some, None, refl, sym, ap, ◌∙◌, slice_get}
use Rattle.std.specs.Prelude.{IsSome}
use Rattle.hol_varint.specs.TextUnits.{AreUnitsIn}
use Rattle.hol_varint.specs.Varint.{varint_bytes}
use Rattle.hol_varint.proofs.Runs.{codes_once}
use Rattle.hol_varint.proofs.VarWriting.{varint_code}
use Rattle.row_model.specs.declared.row.Row.{Row}
use Rattle.row_model.specs.declared.row.Value.{Value}
use Rattle.row_model.specs.Key.{value_in}
use Rattle.row_model.specs.Table.{Table, row_at, IsLive}
use Rattle.object_codec.specs.Stored.{values_of_row}
use Rattle.object_codec.specs.declared.column.Column.{Column}
use Rattle.column_rows.specs.Columns.{HasValue, IsColumnOf}

there_some : {A : Type 0} (o : Option A) → IsSome o → (x : A) × (o ≡ Some x)
there_some None some = absurd cc
there_some (Some x) some = (x, refl)

-- a value among those of a row is the row's value of the field
of_row : (row : Row) (field : ℕ) (value : Value) → slice_get (values_of_row row) field ≡ Some value → value_in (Some row) field ≡ Some value
of_row (Row.Object values) field value is = is
of_row (Row.List ordinals) field value is = absurd cc
of_row (Row.Set ordinals) field value is = absurd cc
of_row (Row.Map pairs) field value is = absurd cc

-- the value of the row that is there stands in the column
pub column_value : (table : Table) (type_index field ordinal : ℕ) (column : Column) → IsColumnOf table type_index field column → IsLive table type_index ordinal
    → (value : Value) × HasValue column ordinal value × (value_in (row_at table type_index ordinal) field ≡ Some value)
column_value table type_index field ordinal column is live =
    let at = there_some (row_at table type_index ordinal) live in
    let has = is ordinal at.0 at.1 in
    (has.0, has.2, ap (λ (row : Option Row). value_in row field) at.1 ∙ of_row at.0 field has.0 has.1)

-- the units that are read are those that stand there
pub same_units : (bytes units read : List ℕ) → AreUnitsIn bytes units → AreUnitsIn bytes read → read ≡ units
same_units bytes units read are also = codes_once varint_bytes varint_code read units also.0 are.0 (sym also.1 ∙ are.1)
