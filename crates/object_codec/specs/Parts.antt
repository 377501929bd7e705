-- What the element of a field gives, with the bytes of a STRING or BYTES where they stand.
use Rattle.std.specs.Prelude.{◌≡◌, ℕ, [], ◌≤◌, Result, Ok, Err}
use Rattle.schema_model.specs.declared.schema.FieldKind.{FieldKind}
use Rattle.schema_model.specs.declared.reason.Reason.{Reason}
use Rattle.row_model.specs.declared.row.Value.{Value}
use Rattle.object_codec.specs.Part.{FieldPart, IsSpan, HasNullBit, end_of, SpellsInt, SpellsLong, SpellsReference, SpellsBoolean, FailsValue}
use Rattle.object_codec.specs.declared.part.Part.{Part}

-- The value of a part without bytes. A part with bytes has one that no field without bytes has.
abbrev pub fixed_value : Part → Value
fixed_value Part.Null = Value.Null
fixed_value (Part.Int number) = Value.Int number
fixed_value (Part.Long number) = Value.Long number
fixed_value (Part.Bool flag) = Value.Bool flag
fixed_value (Part.Ref ordinal) = Value.Ref ordinal
fixed_value (Part.Run start end) = Value.Bytes []

-- The part of a STRING or BYTES is null, or its bytes stand from the one place up to the other.
abbrev pub GivesRun : FieldPart → Part → Type 0
GivesRun part Part.Null = IsSpan part × HasNullBit part
GivesRun part (Part.Run start end) = IsSpan part × (HasNullBit part → ⊥) × (start ≡ part.start) × (end ≡ end_of part)
GivesRun part _ = ⊥

-- The part of a field of this kind gives this.
abbrev pub GivesPart : FieldKind → FieldPart → Part → Type 0
GivesPart (FieldKind.Reference name) part given = SpellsReference part.width part.element (fixed_value given)
GivesPart FieldKind.Int part given = SpellsInt part.width part.element (fixed_value given)
GivesPart FieldKind.Long part given = SpellsLong part.width part.element (fixed_value given)
GivesPart FieldKind.Boolean part given = SpellsBoolean part.element (fixed_value given)
GivesPart FieldKind.Text part given = GivesRun part given
GivesPart FieldKind.Bytes part given = GivesRun part given

-- What each answer of the reader of a STRING's or BYTES' part tells.
abbrev pub TellsRun : FieldPart → Result Part Reason → Type 0
TellsRun part (Ok given) = GivesRun part given
TellsRun part (Err reason) = (reason ≡ Reason.BadPointers) × (IsSpan part → ⊥)

-- What each answer of the reader of a part tells.
abbrev pub TellsPart : FieldKind → FieldPart → Result Part Reason → Type 0
TellsPart kind part (Ok given) = GivesPart kind part given
TellsPart kind part (Err reason) = FailsValue kind part reason

-- The bytes of a part stand within so many.
abbrev pub IsRunWithin : ℕ → Part → Type 0
IsRunWithin bytes (Part.Run start end) = (start ≤ end) × (end ≤ bytes)
IsRunWithin bytes _ = Unit {0}
