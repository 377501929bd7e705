-- The variable bytes of the fields of a type.
use Rattle.std.specs.Prelude.{List, [], ℕ, slice_get, unwrap_or}

-- the bytes of a field's area, none where the field has no area
abbrev pub area_of : List (List ℕ) → ℕ → List ℕ
area_of areas field = unwrap_or (slice_get areas field) []
