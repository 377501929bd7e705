-- The part of a type in a delta, seen through another schema of the type: what it is for a consumer whose fields are not those of the blob.
use Rattle.std.specs.Prelude.{◌≡◌, ◌⊎◌, ℕ, ◌*◌, ◌^◌, ◌<◌, ◌≤◌, List, [], All, Option, None, Some, length, map, slice_set, sum, sum_by, unwrap_or}
use Rattle.bit_array.specs.Element.{AreWords, number_of, words_of}
use Rattle.schema_model.specs.declared.schema.Field.{Field}
use Rattle.schema_model.specs.declared.schema.Shape.{Shape}
use Rattle.schema_model.specs.Parts.{shape_fields}
use Rattle.type_rows.specs.declared.patch.PatchSection.{PatchSection}
use Rattle.seen_patches.specs.ByName.{item_named}
use Rattle.seen_patches.specs.Elements.{elements_of}
use Rattle.seen_patches.specs.Nulls.{null_element, null_width}

-- The width of a field of the consumer: that of the blob's field of its name, and that of a null where the blob has none.
abbrev pub seen_width : List Field → List ℕ → Field → ℕ
seen_width theirs widths field = unwrap_or (item_named theirs widths field.name) (null_width field.kind)

abbrev pub seen_widths : List Field → List Field → List ℕ → List ℕ
seen_widths mine theirs widths = map (seen_width theirs widths) mine

-- Its element in a record: that of the blob's field of its name, and null where the blob has none.
abbrev pub seen_element : List Field → List ℕ → Field → ℕ
seen_element theirs elements field = unwrap_or (item_named theirs elements field.name) (null_element field.kind)

abbrev pub seen_elements : List Field → List Field → List ℕ → List ℕ
seen_elements mine theirs elements = map (seen_element theirs elements) mine

-- Its variable bytes: those of the blob's field of its name, and none where the blob has none.
abbrev pub seen_area : List Field → List (List ℕ) → Field → List ℕ
seen_area theirs areas field = unwrap_or (item_named theirs areas field.name) []

abbrev pub seen_areas : List Field → List Field → List (List ℕ) → List (List ℕ)
seen_areas mine theirs areas = map (seen_area theirs areas) mine

-- What is left of the bytes of some fields where those of a field are taken.
abbrev pub areas_left : List (List ℕ) → Option ℕ → List (List ℕ)
areas_left areas None = areas
areas_left areas (Some place) = slice_set areas place []

-- The width that counts of it: that of the blob's field of its name, and 0 where the blob has none.
abbrev pub own_width : List Field → List ℕ → Field → ℕ
own_width theirs widths field = unwrap_or (item_named theirs widths field.name) 0

-- The widths of the fields that both have, together.
abbrev pub shared_bits : List Field → List Field → List ℕ → ℕ
shared_bits mine theirs widths = sum_by (own_width theirs widths) mine

-- The section of a blob has a column for each field: one width of 64 bits at most, one area, and words for all places.
pub record AreColumns (theirs : List Field) (raw : PatchSection) : Type 0 where
  pub long : length raw.widths ≡ length theirs
  pub narrow : All (λ width. width ≤ 64) raw.widths
  pub filled : length raw.areas ≡ length theirs
  pub enough : length raw.added * sum raw.widths ≤ 64 * length raw.first

-- The section has the columns of the consumer's fields, each the blob's column of its name or one of nulls; the ordinals stay as they are. It has as
-- many words of 64 bits as the places of the added ordinals need, with no bit behind them.
pub record IsColumned (mine theirs : List Field) (raw seen : PatchSection) : Type 0 where
  pub max : seen.max ≡ raw.max
  pub widths : seen.widths ≡ seen_widths mine theirs raw.widths
  pub own : seen.own ≡ shared_bits mine theirs raw.widths
  pub total : seen.total ≡ raw.total
  pub words : length seen.first ≡ words_of (length raw.added * sum seen.widths)
  pub are : AreWords seen.first
  pub elements : (place : ℕ) → place < length raw.added → elements_of seen.widths seen.first place ≡ seen_elements mine theirs (elements_of raw.widths raw.first place)
  pub bits : number_of seen.first < 2 ^ (length raw.added * sum seen.widths)
  pub second : seen.second ≡ raw.second
  pub areas : seen.areas ≡ seen_areas mine theirs raw.areas
  pub removed : seen.removed ≡ raw.removed
  pub added : seen.added ≡ raw.added

-- The section of a blob's type as a consumer sees it: as it stands where both have the same fields, and else with the consumer's columns.
abbrev pub IsSeen : Shape → Shape → PatchSection → PatchSection → Type 0
IsSeen mine theirs raw seen =
    ((shape_fields mine ≡ shape_fields theirs) × (seen ≡ raw))
    ⊎ ((shape_fields mine ≡ shape_fields theirs → ⊥) × IsColumned (shape_fields mine) (shape_fields theirs) raw seen)
