-- One field of all records of a type, and its values where they stand.
use Rattle.std.specs.Prelude.{◌≡◌, ℕ, ◌+◌, ◌-◌, ◌*◌, ◌^◌, ◌<◌, ◌≤◌, List, take, drop, length}
use Rattle.hol_varint.specs.TextUnits.{AreUnitsIn}
use Rattle.schema_model.specs.declared.schema.FieldKind.{FieldKind}
use Rattle.row_model.specs.declared.row.Value.{Value}
use Rattle.object_codec.specs.Part.{FieldPart}
use Rattle.object_codec.specs.ObjectPlace.{part_at, IsKindWidth}
use Rattle.object_codec.specs.declared.column.Column.{Column}
use Rattle.object_codec.specs.declared.part.Part.{Part}
use Rattle.object_codec.specs.declared.value_ref.ValueRef.{ValueRef}
use Rattle.object_codec.specs.Bytes.{bytes_of}

-- What the field has at a place.
abbrev pub part_of : Column → ℕ → FieldPart
part_of column place = part_at column.first.now column.size place column.before column.width (bytes_of column.area)

-- The words hold the element of the field at a place.
pub record IsReadAt (column : Column) (place : ℕ) : Type 0 where
  pub narrow : column.width ≤ 64
  pub wide : IsKindWidth column.kind.now column.width
  pub record_holds : column.before + column.width ≤ column.size
  pub words_hold : place * column.size + column.before + column.width ≤ 64 * length column.first.now
  pub fits : place * column.size + column.before + column.width < 2 ^ 64

-- The value that stands somewhere is this one: of a STRING the bytes are those of its units.
abbrev pub Shows : ValueRef → Value → Type 0
Shows ValueRef.Null Value.Null = Unit {0}
Shows (ValueRef.Int number) (Value.Int n) = number ≡ n
Shows (ValueRef.Long number) (Value.Long n) = number ≡ n
Shows (ValueRef.Bool flag) (Value.Bool f) = flag ≡ f
Shows (ValueRef.Text bytes) (Value.Text units) = AreUnitsIn (bytes_of bytes) units
Shows (ValueRef.Bytes bytes) (Value.Bytes b) = bytes_of bytes ≡ b
Shows (ValueRef.Ref ordinal) (Value.Ref o) = ordinal ≡ o
Shows _ _ = ⊥

-- What stands somewhere is what a part of a field of this kind gives, the field having these bytes.
abbrev pub ShowsRun : FieldKind → List ℕ → ValueRef → Type 0
ShowsRun FieldKind.Text run (ValueRef.Text bytes) = bytes_of bytes ≡ run
ShowsRun FieldKind.Text run _ = ⊥
ShowsRun _ run (ValueRef.Bytes bytes) = bytes_of bytes ≡ run
ShowsRun _ run _ = ⊥

abbrev pub ShowsPart : FieldKind → List ℕ → Part → ValueRef → Type 0
ShowsPart kind area Part.Null shown = shown ≡ ValueRef.Null
ShowsPart kind area (Part.Int number) shown = shown ≡ ValueRef.Int number
ShowsPart kind area (Part.Long number) shown = shown ≡ ValueRef.Long number
ShowsPart kind area (Part.Bool flag) shown = shown ≡ ValueRef.Bool flag
ShowsPart kind area (Part.Ref ordinal) shown = shown ≡ ValueRef.Ref ordinal
ShowsPart kind area (Part.Run start end) shown = ShowsRun kind (take (end - start) (drop start area)) shown
