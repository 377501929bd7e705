-- Rows that stand packed, and what is put for them.
use Rattle.std.proofs.Common.{◌≡◌, ℕ, zero, suc, ◌+◌, ◌<◌, List, [], ◌∷◌, ◌++◌, length, get_or, Some, String, Global, string_bytes, drop, slice_get, refl, sym, subst}
use Rattle.std.specs.List.{AllZip}
use Rattle.std.proofs.lemmas.Option.{get_or_from_slice_get, slice_get-get_or}
use Rattle.std.proofs.lemmas.Slice.Zip.{AllZip-long}
use Rattle.serde_json.specs.Data.{Data}
use Rattle.schema_model.specs.declared.schema.Shape.{Shape}
use Rattle.schema_model.specs.Parts.{shape_fields}
use Rattle.row_model.specs.declared.row.Row.{Row}
use Rattle.row_model.specs.declared.row.Value.{Value}
use Rattle.row_model.specs.Row.{FitsKind, FitsShape}
use Rattle.json_rows.specs.FieldOrder.{Order}
use Rattle.json_rows.specs.LineForm.{text_at}
use Rattle.json_rows.specs.RowLine.{PutsAll, PutsRecord, PutsRow}
use Rattle.json_rows.specs.StoredRow.{IsValueData}
use Rattle.json_rows.specs.Standing.{HasRecords}
use Rattle.json_rows.proofs.Put.{field_put, record_put}

-- one more stands behind those that are there, and what holds of each at its place holds of all
pub each_more : {A : Type 0} (P : ℕ → A → Type 0) (xs : List A) (x : A) → ((k : ℕ) (y : A) → slice_get xs k ≡ Some y → P k y) → P (length xs) x
    → (k : ℕ) (y : A) → slice_get (xs ++ x ∷ []) k ≡ Some y → P k y
each_more P [] x each last zero y is = let same : x ≡ y = cc in subst (P 0) same last
each_more P [] x each last (suc k) y is = absurd cc
each_more P (z ∷ zs) x each last zero y is = each 0 y is
each_more P (z ∷ zs) x each last (suc k) y is = each_more (λ k. P (suc k)) zs x (λ j v at. each (suc j) v at) last k y is

-- the row is a record, with a value for each field
pub record_of : (shape : Shape) (row : Row) → HasRecords shape → FitsShape shape row → (values : List Value) × (row ≡ Row.Object values) × (length values ≡ length (shape_fields shape))
record_of (Shape.Object key fields) (Row.Object values) has fits = (values, refl, AllZip-long (λ field value. FitsKind field.kind value) fields values fits)
record_of (Shape.Object key fields) _ has fits = absurd fits
record_of _ row has fits = absurd has

-- the object of its values is put, and so the row
pub columns_put : (leads : Order) (shape : Shape) (row : Row) (old new : List ℕ) → HasRecords shape → FitsShape shape row
    → ((values : List Value) → row ≡ Row.Object values → length values ≡ length (shape_fields shape) → PutsRecord leads values old new) → PutsRow leads row old new
columns_put leads shape row old new has fits put =
    let record_is = record_of shape row has fits in
    subst (λ r. PutsRow leads r old new) (sym record_is.1) (record_put leads record_is.0 old new (put record_is.0 record_is.1 record_is.2))

-- one field is put from its column, behind its lead
pub column_put : (leads : Order) (values : List Value) (printed : List Data) (place : ℕ) (lead : String Global × ℕ) (behind whole out led new : List ℕ) →
    place < length leads → lead ≡ get_or leads place lead → AllZip IsValueData values printed → lead.1 < length values →
    led ≡ out ++ string_bytes lead.0 → ((value : Value) → slice_get values lead.1 ≡ Some value → PutsAll (IsValueData value) led new) →
    out ++ text_at (drop place leads) printed behind ≡ whole → new ++ text_at (drop (place + 1) leads) printed behind ≡ whole
column_put leads values printed place lead behind whole out led new fits lead_is all within led_is put rest =
    let value = get_or values lead.1 Value.Null in
    let there = slice_get-get_or values lead.1 Value.Null within in
    field_put leads values printed place lead value behind whole out led new fits lead_is all within (sym (get_or_from_slice_get values lead.1 value value there)) led_is (put value there) rest
