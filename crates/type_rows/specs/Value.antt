-- The value that the part of a field gives, computed: where the part gives one, it is this one.
use Rattle.std.specs.Prelude.{ℕ, ◌+◌, ◌-◌, ◌*◌, ◌^◌, ◌==◌, nat_le, nat_lt, if◌then◌else◌, List, [], ◌∷◌, ◌++◌}
use Rattle.hol_varint.specs.Zigzag.{unzigzag}
use Rattle.schema_model.specs.declared.schema.FieldKind.{FieldKind}
use Rattle.row_model.specs.declared.row.Value.{Value}
use Rattle.object_codec.specs.Part.{FieldPart, span_of}

-- The units of bytes, where the groups of the first unit that stand before them make `high`: a byte below 128 is the last group of its unit, and
-- each other one has the high bit set on its group.
unfoldable pub units_behind : ℕ → List ℕ → List ℕ
units_behind high [] = []
units_behind high (byte ∷ bytes) =
    (if nat_lt byte 128 then (high * 128 + byte) ∷ [] else []) ++ units_behind (if nat_lt byte 128 then 0 else high * 128 + (byte - 128)) bytes

-- The units of the bytes of a STRING.
abbrev pub units_in : List ℕ → List ℕ
units_in bytes = units_behind 0 bytes

-- A value, or null where all bits of the element are ones.
abbrev pub unless_ones : FieldPart → Value → Value
unless_ones part value = (if part.element == 2 ^ part.width - 1 then Value.Null else value)

-- A value, or null where the null bit of the element is set.
abbrev pub unless_null_bit : FieldPart → Value → Value
unless_null_bit part value = (if nat_le (2 ^ (part.width - 1)) part.element then Value.Null else value)

-- The value of a part of a field of this kind.
abbrev pub value_in : FieldKind → FieldPart → Value
value_in (FieldKind.Reference name) part = unless_ones part (Value.Ref part.element)
value_in FieldKind.Int part = unless_ones part (Value.Int (unzigzag part.element))
value_in FieldKind.Long part = unless_ones part (Value.Long (unzigzag part.element))
value_in FieldKind.Boolean part = (if part.element == 3 then Value.Null else Value.Bool (part.element == 1))
value_in FieldKind.Text part = unless_null_bit part (Value.Text (units_in (span_of part)))
value_in FieldKind.Bytes part = unless_null_bit part (Value.Bytes (span_of part))
