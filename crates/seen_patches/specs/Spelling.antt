-- The row that a place of a section spells for a consumer whose fields are not those of the blob, and why it spells none.
use Rattle.std.specs.Prelude.{◌≡◌, ◌⊎◌, ℕ, List, [], ◌∷◌, Option, Some, None}
use Rattle.std.specs.List.{AllZip}
use Rattle.schema_model.specs.declared.reason.Reason.{Reason}
use Rattle.schema_model.specs.declared.schema.Field.{Field}
use Rattle.schema_model.specs.declared.schema.FieldKind.{FieldKind}
use Rattle.schema_model.specs.declared.schema.Shape.{Shape}
use Rattle.schema_model.specs.Parts.{shape_fields}
use Rattle.row_model.specs.declared.row.Row.{Row}
use Rattle.row_model.specs.declared.row.Value.{Value}
use Rattle.object_codec.specs.ObjectPlace.{parts_of}
use Rattle.object_codec.specs.Part.{FieldPart, FailsValue, SpellsValue}
use Rattle.type_rows.specs.declared.section.Section.{Section}
use Rattle.type_rows.specs.Loads.{Spells}
use Rattle.type_rows.specs.Fails.{Fails}
use Rattle.seen_patches.specs.ByName.{item_named}

-- What the blob has of a field gives this value; a field that it lacks is null.
abbrev pub SpellsColumn : FieldKind → Option FieldPart → Value → Type 0
SpellsColumn kind (Some part) value = SpellsValue kind part value
SpellsColumn kind None value = value ≡ Value.Null

-- What the blob has of a field gives no value, for this reason; a field that it lacks never fails.
abbrev pub FailsColumn : FieldKind → Option FieldPart → Reason → Type 0
FailsColumn kind (Some part) reason = FailsValue kind part reason
FailsColumn kind None reason = ⊥

-- Each field of the consumer has its value, by its name. What the blob has of other fields may be anything.
abbrev pub SpellsColumns : List Field → List FieldPart → List Field → List Value → Type 0
SpellsColumns theirs parts mine values = AllZip (λ field value. SpellsColumn field.kind (item_named theirs parts field.name) value) mine values

-- The first field of the consumer that has none fails for this reason.
abbrev pub FirstColumnFails : List Field → List FieldPart → List Field → Reason → Type 0
FirstColumnFails theirs parts (field ∷ mine) reason =
    FailsColumn field.kind (item_named theirs parts field.name) reason
    ⊎ (((value : Value) × SpellsColumn field.kind (item_named theirs parts field.name) value) × FirstColumnFails theirs parts mine reason)
FirstColumnFails theirs parts [] reason = ⊥

-- The place of a section of the blob's shape spells this row for the consumer: a record field by field, and any other row as it stands.
abbrev pub SpellsSeen : Shape → Shape → Section → ℕ → Row → Type 0
SpellsSeen (Shape.Object key mine) theirs section place (Row.Object values) =
    SpellsColumns (shape_fields theirs) (parts_of section.widths section.first section.areas place) mine values
SpellsSeen (Shape.Object key mine) theirs section place _ = ⊥
SpellsSeen mine theirs section place row = Spells mine section place row

-- The place spells no row for the consumer, for this reason.
abbrev pub FailsSeen : Shape → Shape → Section → ℕ → Reason → Type 0
FailsSeen (Shape.Object key mine) theirs section place reason =
    FirstColumnFails (shape_fields theirs) (parts_of section.widths section.first section.areas place) mine reason
FailsSeen mine theirs section place reason = Fails mine section place reason
