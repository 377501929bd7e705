-- Fields whose widths alone tell that each element has a value.
use Rattle.std.specs.Prelude.{◌≡◌, ◌^◌, ◌<◌, ℕ, List, slice_get, slice_index, Some}
use Rattle.schema_model.specs.declared.schema.Field.{Field}
use Rattle.schema_model.specs.declared.schema.FieldKind.{FieldKind}
use Rattle.row_model.specs.declared.row.Value.{Value}
use Rattle.object_codec.specs.Packing.{HasBytes}
use Rattle.object_codec.specs.Part.{FieldPart, SpellsValue}

-- Each element of the width has a value in a field of this kind, which has no variable bytes.
pub record IsFree (kind : FieldKind) (width : ℕ) : Type 0 where
  pub spells : (part : FieldPart) → part.width ≡ width → part.element < 2 ^ part.width → (value : Value) × SpellsValue kind part value
  pub fixed : HasBytes kind → ⊥

-- So it is in the first so many fields.
abbrev pub AreFree : List Field → List ℕ → ℕ → Type 0
AreFree fields widths count = (index : ℕ) (field : Field) → index < count → slice_get fields index ≡ Some field → IsFree field.kind (slice_index widths index)
