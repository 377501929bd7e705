-- Lemmas on the bytes of fields whose values have none.
use Rattle.std.proofs.Common.{◌≡◌, ℕ, suc, ◌+◌, ◌<◌, List, [], ◌∷◌, ◌++◌, length, get_or, Option, None, Some, refl, ap, subst, ◌∙◌, arith, append-nil}
use Rattle.std.specs.Prelude.{map, replicate, slice_get, IfSome}
use Rattle.std.specs.List.{enumerate_from}
use Rattle.std.specs.Option.{option_to_list}
use Rattle.std.proofs.lemmas.Grind.{flat_map-append}
use Rattle.row_model.specs.Areas.{area_of}
use Rattle.row_model.specs.Row.{FitsKind, FitsShape}
use Rattle.row_model.specs.declared.row.Row.{Row}
use Rattle.row_model.specs.declared.row.Value.{Value}
use Rattle.schema_model.specs.Parts.{shape_fields}
use Rattle.schema_model.specs.declared.schema.Field.{Field}
use Rattle.schema_model.specs.declared.schema.FieldKind.{FieldKind}
use Rattle.schema_model.specs.declared.schema.Shape.{Shape}
use Rattle.object_codec.specs.Packing.{HasBytes, areas_for, values_of_place}
use Rattle.object_codec.specs.Stored.{column, value_at, value_bytes, values_bytes}
use Rattle.object_codec.proofs.RowPuts.{fits_at}
use Rattle.record_copies.specs.Fixed.{AreFixed}

no_value_bytes : (kind : FieldKind) (value : Value) → FitsKind kind value → (HasBytes kind → ⊥) → value_bytes value ≡ []
no_value_bytes FieldKind.Text value fits none = absurd (none tt)
no_value_bytes FieldKind.Bytes value fits none = absurd (none tt)
no_value_bytes _ (Value.Text units) fits none = absurd fits
no_value_bytes _ (Value.Bytes bytes) fits none = absurd fits
no_value_bytes _ _ fits none = refl

no_bytes_found : (kind : FieldKind) (found : Option Value) → IfSome found (FitsKind kind) → (HasBytes kind → ⊥) → values_bytes (option_to_list found) ≡ []
no_bytes_found kind None fits none = refl
no_bytes_found kind (Some value) fits none = append-nil (value_bytes value) ∙ no_value_bytes kind value fits none

no_column_bytes : (index : ℕ) (kind : FieldKind) (rows : List (Option Row)) → ((place : ℕ) (row : Option Row) → slice_get rows place ≡ Some row → IfSome (slice_get (values_of_place row) index) (FitsKind kind))
    → (HasBytes kind → ⊥) → values_bytes (column index (map values_of_place rows)) ≡ []
no_column_bytes index kind [] fit none = refl
no_column_bytes index kind (row ∷ rows) fit none =
    flat_map-append value_bytes (value_at index (values_of_place row)) (column index (map values_of_place rows))
    ∙ ap (λ (bytes : List ℕ). bytes ++ values_bytes (column index (map values_of_place rows))) (no_bytes_found kind (slice_get (values_of_place row) index) (fit 0 row refl) none)
    ∙ no_column_bytes index kind rows (λ place found there. fit (suc place) found there) none

abbrev bytes_from : ℕ → List Field → List (Option Row) → List (List ℕ)
bytes_from n fields rows = map (λ part. values_bytes (column part.0 (map values_of_place rows))) (enumerate_from n fields)

long_from : (n : ℕ) (fields : List Field) (rows : List (Option Row)) → length (bytes_from n fields rows) ≡ length fields
long_from n [] rows = refl
long_from n (field ∷ fields) rows = ap suc (long_from (n + 1) fields rows)

-- There are bytes of each field, or none for it.
pub areas_long : (fields : List Field) (rows : List (Option Row)) → length (areas_for fields rows) ≡ length fields
areas_long fields rows = long_from 0 fields rows

none_from : (n : ℕ) (fields : List Field) (rows : List (Option Row)) → AreFixed fields
    → ((place : ℕ) (row : Option Row) (k : ℕ) (field : Field) → slice_get rows place ≡ Some row → k < length fields → field ≡ get_or fields k field → IfSome (slice_get (values_of_place row) (n + k)) (FitsKind field.kind))
    → bytes_from n fields rows ≡ replicate (length fields) []
none_from n [] rows fixed fit = refl
none_from n (field ∷ fields) rows fixed fit =
    let here : n + 0 ≡ n = omega arith in
    let head : values_bytes (column n (map values_of_place rows)) ≡ [] =
    no_column_bytes n field.kind rows (λ place row there. subst (λ (i : ℕ). IfSome (slice_get (values_of_place row) i) (FitsKind field.kind)) here (fit place row 0 field there (omega arith) refl)) (fixed 0 field (omega arith)) in
    let rest : bytes_from (n + 1) fields rows ≡ replicate (length fields) [] =
    none_from (n + 1) fields rows (λ k d inside. fixed (suc k) d (omega (arith, inside)))
    (λ place row k found there inside is.
    let next : n + suc k ≡ n + 1 + k = omega arith in
    subst (λ (i : ℕ). IfSome (slice_get (values_of_place row) i) (FitsKind found.kind)) next (fit place row (suc k) found there (omega (arith, inside)) is)) in
    ap (λ (bytes : List ℕ). bytes ∷ bytes_from (n + 1) fields rows) head ∙ ap (λ (more : List (List ℕ)). [] ∷ more) rest

fits_place : (shape : Shape) (rows : List (Option Row)) (place : ℕ) (row : Option Row) → ((found : Row) → slice_get rows place ≡ Some (Some found) → FitsShape shape found) → slice_get rows place ≡ Some row → IfSome row (FitsShape shape)
fits_place shape rows place None fit there = tt
fits_place shape rows place (Some row) fit there = fit row there

-- Rows of a type without STRING and BYTES have no bytes.
pub areas_none : (shape : Shape) (rows : List (Option Row)) → AreFixed (shape_fields shape) → ((place : ℕ) (row : Row) → slice_get rows place ≡ Some (Some row) → FitsShape shape row)
    → areas_for (shape_fields shape) rows ≡ replicate (length (shape_fields shape)) []
areas_none shape rows fixed fit =
    none_from 0 (shape_fields shape) rows fixed
    (λ place row k field there inside is.
    let same : k ≡ 0 + k = omega arith in
    subst (λ (i : ℕ). IfSome (slice_get (values_of_place row) i) (FitsKind field.kind)) same (fits_at shape row k field (fits_place shape rows place row (fit place) there) inside is))

-- Areas of which each is empty.
pub all_empty : (areas : List (List ℕ)) → ((k : ℕ) → k < length areas → area_of areas k ≡ []) → areas ≡ replicate (length areas) []
all_empty [] none = refl
all_empty (area ∷ areas) none =
    ap (λ (first : List ℕ). first ∷ areas) (none 0 (omega arith)) ∙ ap (λ (more : List (List ℕ)). [] ∷ more) (all_empty areas (λ k inside. none (suc k) (omega (arith, inside))))
