-- The rows of places as they are packed, by the codec of the kind.
use Rattle.std.specs.Prelude.{◌≡◌, ℕ, List, [], Option}
use Rattle.row_model.specs.declared.row.Row.{Row}
use Rattle.schema_model.specs.declared.schema.Shape.{Shape}
use Rattle.object_codec.specs.Packing as object
use Rattle.list_codec.specs.Packing as list
use Rattle.bucket_codec.specs.Packed as bucket

-- The places can be packed with these widths.
abbrev pub CanPackPlaces : Shape → List ℕ → List (Option Row) → Type 0
CanPackPlaces (Shape.Object key fields) widths rows = object.CanPack (Shape.Object key fields) widths rows
CanPackPlaces (Shape.List element) widths rows = list.CanPack (Shape.List element) widths rows
CanPackPlaces (Shape.Set element) widths rows = bucket.IsPackable (Shape.Set element) widths rows
CanPackPlaces (Shape.Map key value) widths rows = bucket.IsPackable (Shape.Map key value) widths rows

-- The words and bytes are those of these places.
abbrev pub PacksPlaces : Shape → List ℕ → List (Option Row) → List ℕ → List ℕ → List (List ℕ) → Type 0
PacksPlaces (Shape.Object key fields) widths rows first second areas = object.IsPacked (Shape.Object key fields) widths rows first areas × (second ≡ [])
PacksPlaces (Shape.List element) widths rows first second areas = list.IsPacked widths rows first second × (areas ≡ [])
PacksPlaces (Shape.Set element) widths rows first second areas = bucket.IsPacked (Shape.Set element) widths rows first second × (areas ≡ [])
PacksPlaces (Shape.Map key value) widths rows first second areas = bucket.IsPacked (Shape.Map key value) widths rows first second × (areas ≡ [])
