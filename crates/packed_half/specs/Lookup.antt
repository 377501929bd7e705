-- What a set or map has that may stand under an ordinal, and the sets or maps of a half.
use Rattle.std.specs.Prelude.{◌≡◌, ℕ, List, [], Option, Some}
use Rattle.schema_model.specs.declared.schema.Shape.{Shape}
use Rattle.row_model.specs.declared.row.Row.{Row}
use Rattle.bucket_codec.specs.declared.bucket_rows.BucketRows.{BucketRows}
use Rattle.packed_half.specs.declared.half.HalfShape.{HalfShape}
use Rattle.packed_half.specs.Half.{section_in}

-- The elements of a set; there are none where there is no set.
abbrev pub elements_of : Option Row → List ℕ
elements_of (Some (Row.Set ordinals)) = ordinals
elements_of _ = []

-- The keys and values of a map, and none where there is no map.
abbrev pub pairs_of : Option Row → List (ℕ × ℕ)
pairs_of (Some (Row.Map pairs)) = pairs
pairs_of _ = []

-- The sets or maps are those of a half.
pub record AreRunsOf (shape : Shape) (half : HalfShape) (words : List ℕ) (rows : BucketRows) : Type 0 where
  pub widths : rows.widths.now ≡ half.widths
  pub total : rows.total ≡ half.total
  pub first : rows.first.now ≡ (section_in shape half words).first
  pub second : rows.second.now ≡ (section_in shape half words).second
