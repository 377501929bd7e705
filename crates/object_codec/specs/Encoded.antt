-- The elements of values, as they are computed.
use Rattle.std.specs.Prelude.{◌≡◌, ℕ, ◌+◌, ◌-◌, ◌^◌, ◌<◌, List, ◌++◌, length, Option, unwrap_or}
use Rattle.std.specs.Option.{option_to_list}
use Rattle.schema_model.specs.declared.schema.FieldKind.{FieldKind}
use Rattle.row_model.specs.declared.row.Value.{Value}
use Rattle.object_codec.specs.Packing.{HasBytes, PacksPart}
use Rattle.object_codec.specs.Part.{offset_in}
use Rattle.object_codec.specs.Stored.{stored_number, values_bytes}

-- The element of a STRING or BYTES: where its bytes end, with the null bit for null.
abbrev pub end_element : ℕ → ℕ → Value → ℕ
end_element width end Value.Null = end + 2 ^ (width - 1)
end_element width end value = end

-- The element of a value in a field of a kind, the field's bytes ending at `end`.
abbrev pub element_for : FieldKind → ℕ → ℕ → Value → ℕ
element_for FieldKind.Text width end value = end_element width end value
element_for FieldKind.Bytes width end value = end_element width end value
element_for _ width end value = unwrap_or (stored_number value) (2 ^ width - 1)

-- The element of a field where there is no row.
abbrev pub gap_element : FieldKind → ℕ → ℕ
gap_element FieldKind.Text end = end
gap_element FieldKind.Bytes end = end
gap_element _ end = 0

-- The bytes of a value are behind those of its field, and its element is one that packs it.
pub record IsTaken (kind : FieldKind) (width element : ℕ) (before area : List ℕ) (value : Option Value) : Type 0 where
  pub grown : area ≡ before ++ values_bytes (option_to_list value)
  pub below : element < 2 ^ width
  pub packs : PacksPart kind (record { width = width; element = element; start = length before; area = area }) value
  pub ends : HasBytes kind → offset_in width element ≡ length area
