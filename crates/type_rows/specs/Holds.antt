-- When the layout of a type can hold its rows, and when they keep the limits.
use Rattle.std.specs.Prelude.{◌≡◌, ℕ, ◌-◌, ◌^◌, ◌<◌, ◌≤◌, List, [], ◌∷◌, ◌++◌, Some, length, slice_get, slice_index, All}
use Rattle.std.specs.FinMap.{keys, values}
use Rattle.hol_varint.specs.Zigzag.{zigzag}
use Rattle.schema_model.specs.declared.limit.Limit.TheVariants.{Words, Bytes}
use Rattle.schema_model.specs.Limit.{number_of_limit}
use Rattle.row_model.specs.Table.{RowMap}
use Rattle.schema_model.specs.declared.schema.FieldKind.{FieldKind}
use Rattle.schema_model.specs.declared.schema.Field.{Field}
use Rattle.schema_model.specs.declared.schema.Shape.{Shape}
use Rattle.row_model.specs.declared.row.Value.{Value}
use Rattle.row_model.specs.declared.row.Row.{Row}
use Rattle.list_codec.specs.ListPlace.{pointer_width, element_width}
use Rattle.bucket_codec.specs.BucketPlace.{size_width, key_width, value_width}
use Rattle.type_rows.specs.Layout.{Layout, places_of, item_count, counted_words}
use Rattle.type_rows.specs.WordsHeld.{field_bytes, bytes_held}

-- A number is below all ones, which is null.
abbrev pub IsBelowOnes : ℕ → ℕ → Type 0
IsBelowOnes width number = number < 2 ^ width - 1

-- A value fits the width of its field. A null fits any width; of a STRING or BYTES the end offset lies below the null bit.
abbrev pub FitsWidth : FieldKind → ℕ → ℕ → Value → Type 0
FitsWidth (FieldKind.Reference name) width end Value.Null = Unit {0}
FitsWidth (FieldKind.Reference name) width end (Value.Ref ordinal) = IsBelowOnes width ordinal
FitsWidth FieldKind.Int width end Value.Null = Unit {0}
FitsWidth FieldKind.Int width end (Value.Int number) = IsBelowOnes width (zigzag number)
FitsWidth FieldKind.Long width end Value.Null = Unit {0}
FitsWidth FieldKind.Long width end (Value.Long number) = IsBelowOnes width (zigzag number)
FitsWidth FieldKind.Boolean width end Value.Null = width ≡ 2
FitsWidth FieldKind.Boolean width end (Value.Bool flag) = width ≡ 2
FitsWidth FieldKind.Text width end value = end < 2 ^ (width - 1)
FitsWidth FieldKind.Bytes width end value = end < 2 ^ (width - 1)
FitsWidth _ width end _ = ⊥

-- Each part of a record fits its width; the end offsets are given by field.
abbrev pub FitsWidths : List Field → List ℕ → (ℕ → ℕ) → List Value → Type 0
FitsWidths fields widths ends record_values =
    (index : ℕ) (field : Field) (value : Value) → slice_get fields index ≡ Some field → slice_get record_values index ≡ Some value
    → FitsWidth field.kind (slice_index widths index) (ends index) value

-- The elements of a list fit the widths of its type, where so many elements stand up to its end.
pub record FitsList (widths : List ℕ) (items : ℕ) (ordinals : List ℕ) : Type 0 where
  pub pointer : items < 2 ^ pointer_width widths
  pub elements : All (λ ordinal. ordinal < 2 ^ element_width widths) ordinals

-- The elements of a set fit the widths of its type, where so many buckets stand up to its end: all ones is an empty bucket.
pub record FitsSet (widths : List ℕ) (items : ℕ) (ordinals : List ℕ) : Type 0 where
  pub pointer : items < 2 ^ pointer_width widths
  pub size : length ordinals < 2 ^ size_width widths
  pub elements : All (λ ordinal. IsBelowOnes (key_width widths) ordinal) ordinals

-- The same of the keys and values of a map.
pub record FitsMap (widths : List ℕ) (items : ℕ) (pairs : List (ℕ × ℕ)) : Type 0 where
  pub pointer : items < 2 ^ pointer_width widths
  pub size : length pairs < 2 ^ size_width widths
  pub parts : All (λ pair. IsBelowOnes (key_width widths) pair.0 × (pair.1 < 2 ^ value_width widths)) pairs

-- Each part of a row fits its width, where the bytes of each field end at an offset, and so many items stand up to the row's end.
abbrev pub FitsRow : Shape → List ℕ → (ℕ → ℕ) → ℕ → Row → Type 0
FitsRow (Shape.Object key fields) widths ends items (Row.Object record_values) = FitsWidths fields widths ends record_values
FitsRow (Shape.List element) widths ends items (Row.List ordinals) = FitsList widths items ordinals
FitsRow (Shape.Set element) widths ends items (Row.Set ordinals) = FitsSet widths items ordinals
FitsRow (Shape.Map key value) widths ends items (Row.Map pairs) = FitsMap widths items pairs
FitsRow _ widths ends items _ = ⊥

-- The last of some rows that are laid out one after another fits the widths.
abbrev pub HoldsRow : Shape → List ℕ → List Row → Row → Type 0
HoldsRow shape widths rows row = FitsRow shape widths (λ f. field_bytes f rows) (item_count rows) row

-- Laid out one after another behind some others, each row fits the widths.
abbrev pub HoldsRows : Shape → List ℕ → List Row → List Row → Type 0
HoldsRows shape widths before [] = Unit {0}
HoldsRows shape widths before (row ∷ rest) = HoldsRow shape widths (before ++ row ∷ []) row × HoldsRows shape widths (before ++ row ∷ []) rest

-- A layout holds the rows of a type: laid out by rising ordinal, with no place between them, each fits, and each has a place.
pub record Holds (shape : Shape) (layout : Layout) (rows : RowMap) : Type 0 where
  pub parts : HoldsRows shape layout.widths [] (values rows)
  pub places : All (λ ordinal. ordinal < places_of layout.max) (keys rows)

-- The limits on the words and the variable bytes of a type in one state; of the record of an OBJECT so many bits are counted.
pub record KeepsLimits (shape : Shape) (own : ℕ) (layout : Layout) (rows : RowMap) : Type 0 where
  pub words : counted_words shape own layout (values rows) ≤ number_of_limit Words
  pub bytes : bytes_held (values rows) ≤ number_of_limit Bytes
