-- Rows have no byte in a field that the blob lacks.
use Rattle.std.proofs.Common.{◌≡◌, ℕ, ◌+◌, List, [], ◌∷◌, ◌++◌, Option, None, Some, refl, ap, subst, ◌∙◌, arith}
use Rattle.std.specs.Prelude.{option_and_then, option_map, slice_get, slice_index, unwrap_or}
use Rattle.std.specs.Option.{option_map_or}
use Rattle.std.proofs.lemmas.List.Sums.{sum_by-cons, sum_by_push}
use Rattle.std.proofs.lemmas.Option.{get_or_from_slice_get, slice_get-map}
use Rattle.schema_model.specs.declared.schema.Field.{Field}
use Rattle.schema_model.specs.declared.schema.FieldKind.{FieldKind}
use Rattle.schema_model.specs.declared.schema.Shape.{Shape}
use Rattle.row_model.specs.declared.row.Row.{Row}
use Rattle.row_model.specs.declared.row.Value.{Value}
use Rattle.type_rows.specs.Holds.{FitsWidth, HoldsRow, HoldsRows}
use Rattle.type_rows.specs.WordsHeld.{field_bytes, part_bytes, value_bytes}
use Rattle.seen_patches.specs.ByName.{field_in}
use Rattle.seen_patches.specs.Nulls.{null_width}
use Rattle.seen_patches.specs.Seen.{seen_width, seen_widths}

value_none : (kind : FieldKind) (end before : ℕ) (value : Value) → FitsWidth kind (null_width kind) end value → end ≡ before + value_bytes value → value_bytes value ≡ 0
value_none (FieldKind.Reference name) end before Value.Null fits is = refl
value_none (FieldKind.Reference name) end before (Value.Ref ordinal) fits is = refl
value_none (FieldKind.Reference name) end before _ fits is = absurd fits
value_none FieldKind.Int end before Value.Null fits is = refl
value_none FieldKind.Int end before (Value.Int number) fits is = refl
value_none FieldKind.Int end before _ fits is = absurd fits
value_none FieldKind.Long end before Value.Null fits is = refl
value_none FieldKind.Long end before (Value.Long number) fits is = refl
value_none FieldKind.Long end before _ fits is = absurd fits
value_none FieldKind.Boolean end before Value.Null fits is = refl
value_none FieldKind.Boolean end before (Value.Bool flag) fits is = refl
value_none FieldKind.Boolean end before _ fits is = absurd fits
value_none FieldKind.Text end before value fits is = omega (arith, fits, is)
value_none FieldKind.Bytes end before value fits is = omega (arith, fits, is)

part_none : (kind : FieldKind) (end before : ℕ) (o : Option Value) → ((value : Value) → o ≡ Some value → FitsWidth kind (null_width kind) end value) → end ≡ before + option_map_or value_bytes o 0
    → option_map_or value_bytes o 0 ≡ 0
part_none kind end before None fits is = refl
part_none kind end before (Some value) fits is = value_none kind end before value (fits value refl) is

row_none : (key : Option (List (List ℕ))) (mine : List Field) (widths : List ℕ) (index : ℕ) (field : Field) (before : List Row) (row : Row) → slice_get mine index ≡ Some field
    → slice_index widths index ≡ null_width field.kind → HoldsRow (Shape.Object key mine) widths (before ++ row ∷ []) row → part_bytes index row ≡ 0
row_none key mine widths index field before (Row.Object values) there wide held =
    let end = field_bytes index (before ++ Row.Object values ∷ []) in
    part_none field.kind end (field_bytes index before) (slice_get values index)
    (λ value is. subst (λ (w : ℕ). FitsWidth field.kind w end value) wide (held index field value there is))
    (sum_by_push (part_bytes index) before (Row.Object values))
row_none key mine widths index field before _ there wide held = absurd held

rows_none : (key : Option (List (List ℕ))) (mine : List Field) (widths : List ℕ) (index : ℕ) (field : Field) (before rows : List Row) → slice_get mine index ≡ Some field
    → slice_index widths index ≡ null_width field.kind → HoldsRows (Shape.Object key mine) widths before rows → field_bytes index rows ≡ 0
rows_none key mine widths index field before [] there wide held = refl
rows_none key mine widths index field before (row ∷ rows) there wide held =
    let first = row_none key mine widths index field before row there wide held.0 in
    let rest = rows_none key mine widths index field (before ++ row ∷ []) rows there wide held.1 in
    omega (arith, sum_by-cons (part_bytes index) row rows, first, rest)

pub lacking_bytes : (key : Option (List (List ℕ))) (mine theirs : List Field) (widths : List ℕ) (rows : List Row) (index : ℕ) (field : Field) → slice_get mine index ≡ Some field
    → field_in theirs field.name ≡ None → HoldsRows (Shape.Object key mine) (seen_widths mine theirs widths) [] rows → field_bytes index rows ≡ 0
lacking_bytes key mine theirs widths rows index field there lacking held =
    let wide : seen_width theirs widths field ≡ null_width field.kind = ap (λ (o : Option ℕ). unwrap_or (option_and_then (slice_get widths) o) (null_width field.kind)) lacking in
    let at : slice_index (seen_widths mine theirs widths) index ≡ seen_width theirs widths field =
    get_or_from_slice_get (seen_widths mine theirs widths) index (seen_width theirs widths field) 0 (slice_get-map (seen_width theirs widths) mine index ∙ ap (option_map (seen_width theirs widths)) there) in
    rows_none key mine (seen_widths mine theirs widths) index field [] rows there (at ∙ wide) held
