-- The elements of values without variable bytes: what each holds, and the elements of a record one after another.
use Rattle.std.specs.Prelude.{◌≡◌, ℕ, ◌+◌, ◌-◌, ◌^◌, ◌≤◌, ◌⊎◌, List, [], sum, take, slice_index, slice_get, unwrap_or, IfSome}
use Rattle.bit_array.specs.Element.{element_of}
use Rattle.schema_model.specs.declared.schema.FieldKind.{FieldKind}
use Rattle.row_model.specs.Row.{FitsKind, stored_value}
use Rattle.row_model.specs.declared.row.Value.{Value}
use Rattle.object_codec.specs.ObjectPlace.{IsKindWidth}
use Rattle.object_codec.specs.Packing.{HasBytes}
use Rattle.object_codec.specs.Part.{FieldPart, SpellsValue}
use Rattle.object_codec.specs.Stored.{stored_number}

-- What the element of a value holds: its number, and ones alone for null.
abbrev pub fixed_element : ℕ → Value → ℕ
fixed_element width value = unwrap_or (stored_number value) (2 ^ width - 1)

-- A part with this element, and no bytes.
abbrev pub bare_part : ℕ → ℕ → FieldPart
bare_part width element = record { width = width; element = element; start = 0; area = [] }

-- The element gives the value in a field of any kind without variable bytes that the value fits, the least INT and LONG as null.
abbrev pub GivesValue : ℕ → ℕ → Value → Type 0
GivesValue width element value =
    (kind : FieldKind) → (HasBytes kind → ⊥) → IsKindWidth kind width → FitsKind kind value → SpellsValue kind (bare_part width element) (stored_value value)

-- No bit outside of a run changes: from the bit `start` up to the bit `end`.
abbrev pub IsOutsideKept : List ℕ → List ℕ → ℕ → ℕ → Type 0
IsOutsideKept old new start end = (at width : ℕ) → (at + width ≤ start) ⊎ (end ≤ at) → element_of new at width ≡ element_of old at width

-- From a bit on, the elements of these widths give these values, each the one at its index.
abbrev pub GiveValues : List ℕ → List ℕ → ℕ → List Value → Type 0
GiveValues widths first start values =
    (index : ℕ) → IfSome (slice_get values index) (GivesValue (slice_index widths index) (element_of first (start + sum (take index widths)) (slice_index widths index)))
