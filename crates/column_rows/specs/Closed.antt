-- Rows that name live ordinals alone, type by type.
use Rattle.std.specs.Prelude.{◌≡◌, ℕ, List, Option, Some, slice_get, All, IfSome}
use Rattle.schema_model.specs.declared.schema.FieldKind.{FieldKind}
use Rattle.schema_model.specs.declared.schema.Schema.{Schema}
use Rattle.schema_model.specs.declared.schema.Shape.{Shape}
use Rattle.row_model.specs.declared.row.Row.{Row}
use Rattle.row_model.specs.declared.row.Value.{Value}
use Rattle.closed_rows.specs.Dangling.{AreLive, NamesLive}
use Rattle.row_model.specs.Row.{references_of_value}
use Rattle.row_model.specs.Table.{Table, row_at, IsLive}
use Rattle.object_codec.specs.Stored.{values_of_row}
use Rattle.bucket_codec.specs.Run.{Bucket, bucket_at}
use Rattle.column_rows.specs.Items.{IsOfPairs}

-- ---- one type that is named, by its index

-- If there is a record under the ordinal whose field names a row of the other type, this is live.
abbrev pub NamesLiveThere : Table → ℕ → ℕ → ℕ → ℕ → Type 0
NamesLiveThere table type_index field target ordinal =
    (row : Row) (named : ℕ) → row_at table type_index ordinal ≡ Some row → slice_get (values_of_row row) field ≡ Some (Value.Ref named) → IsLive table target named

-- If there is a list under the ordinal, each row of the other type that it names is live.
abbrev pub ListNamesLive : Table → ℕ → ℕ → ℕ → Type 0
ListNamesLive table type_index target ordinal = (ordinals : List ℕ) → row_at table type_index ordinal ≡ Some (Row.List ordinals) → All (IsLive table target) ordinals

-- The key of a pair names a live row of one type, and the value one of another type, if there is one.
pub record IsPairLive (table : Table) (key : ℕ) (value : Option ℕ) (pair : ℕ × ℕ) : Type 0 where
  pub key_live : IsLive table key pair.0
  pub value_live : IfSome value (λ target. IsLive table target pair.1)

-- The same of the pair of a bucket, if it is taken.
abbrev pub IsBucketLive : Table → ℕ → Option ℕ → List Bucket → ℕ → Type 0
IsBucketLive table key value run index = (pair : ℕ × ℕ) → bucket_at run index ≡ Some pair → IsPairLive table key value pair

-- If there is a set or map under the ordinal, its pairs name live rows alone.
abbrev pub RunNamesLive : Table → ℕ → ℕ → Option ℕ → ℕ → Type 0
RunNamesLive table type_index key value ordinal =
    (row : Row) → row_at table type_index ordinal ≡ Some row → (pairs : List (ℕ × ℕ)) × IsOfPairs row pairs × All (IsPairLive table key value) pairs

-- ---- all types that a row names, by their names

-- If there is a record under the ordinal, its field names live rows alone.
abbrev pub FieldNamesLive : List Schema → Table → ℕ → FieldKind → ℕ → ℕ → Type 0
FieldNamesLive schemas table type_index kind field ordinal =
    (row : Row) (value : Value) → row_at table type_index ordinal ≡ Some row → slice_get (values_of_row row) field ≡ Some value → AreLive schemas table (references_of_value kind value)

-- If there is a row under the ordinal in a type of this shape, it names live rows alone.
abbrev pub ShapeNamesLive : List Schema → Table → ℕ → Shape → ℕ → Type 0
ShapeNamesLive schemas table type_index shape ordinal = (row : Row) → row_at table type_index ordinal ≡ Some row → NamesLive schemas table shape row
