-- The part of a field that is copied: when its value has room in an element of another width and behind other bytes, and what is written then.
use Rattle.std.specs.Prelude.{◌≡◌, ◌==◌, ℕ, ◌+◌, ◌-◌, ◌^◌, ◌<◌, List, ◌++◌, length, if◌then◌else◌}
use Rattle.schema_model.specs.declared.schema.FieldKind.{FieldKind}
use Rattle.row_model.specs.declared.row.Value.{Value}
use Rattle.object_codec.specs.Packing.{HasBytes, HoldsValue}
use Rattle.object_codec.specs.Part.{FieldPart, HasNullBit, span_of, SpellsValue}
use Rattle.object_codec.specs.Stored.{value_bytes}

-- The part of a field gives this value; a width holds its number, and below the null bit the end of its bytes behind those before.
pub record HasRoomFor (kind : FieldKind) (part : FieldPart) (width : ℕ) (before : List ℕ) (value : Value) : Type 0 where
  pub spelled : SpellsValue kind part value
  pub number : HoldsValue width value
  pub ends : HasBytes kind → length before + length (value_bytes value) < 2 ^ (width - 1)

-- What a field has where its element is this one.
abbrev pub part_with : ℕ → ℕ → ℕ → List ℕ → FieldPart
part_with width element start area = record { width = width; element = element; start = start; area = area }

-- The element of a number in another width: all ones stay all ones.
abbrev pub widened : ℕ → ℕ → ℕ → ℕ
widened width_there width element = (if element == 2 ^ width_there - 1 then 2 ^ width - 1 else element)

-- The bytes of a STRING's or BYTES' part are behind those before, and the element is where they end, with the null bit where the part has it.
pub record IsRunTaken (part : FieldPart) (width element : ℕ) (before area : List ℕ) : Type 0 where
  pub grown : area ≡ before ++ span_of part
  pub null : HasNullBit part → element ≡ length area + 2 ^ (width - 1)
  pub some : (HasNullBit part → ⊥) → element ≡ length area
