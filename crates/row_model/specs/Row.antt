-- Rows: when a row fits its type, when its numbers are in range, and which rows it names.
use Rattle.std.specs.Prelude.{List, [], ◌∷◌, ℕ, ℤ, pos, negsuc, ◌<◌, ◌-◌, ◌^◌, Bool, false, ◌==◌, if◌then◌else◌, FitsSigned, map, flat_map, zip, All, AllPairs}
use mir.Syntax.{w32, w64}
use Rattle.std.specs.List.{AllZip}
use Rattle.schema_model.specs.declared.schema.name.Name.{Name}
use Rattle.schema_model.specs.declared.schema.FieldKind.{FieldKind}
use Rattle.schema_model.specs.declared.schema.Shape.{Shape}
use Rattle.row_model.specs.declared.row.Value.{Value}
use Rattle.row_model.specs.declared.row.Row.{Row}

-- each number is above the one before it
abbrev pub Rises : List ℕ → Type 0
Rises numbers = AllPairs (λ earlier later. earlier < later) numbers

-- a value may stand in a field of this kind
abbrev pub FitsKind : FieldKind → Value → Type 0
FitsKind _ Value.Null = Unit {0}
FitsKind (FieldKind.Reference name) (Value.Ref ordinal) = Unit {0}
FitsKind FieldKind.Int (Value.Int number) = Unit {0}
FitsKind FieldKind.Long (Value.Long number) = Unit {0}
FitsKind FieldKind.Boolean (Value.Bool flag) = Unit {0}
FitsKind FieldKind.Text (Value.Text units) = Unit {0}
FitsKind FieldKind.Bytes (Value.Bytes bytes) = Unit {0}
FitsKind _ _ = ⊥

-- a row may stand in a type of this shape: a record has a value for each field, a set and the keys of a map rise
abbrev pub FitsShape : Shape → Row → Type 0
FitsShape (Shape.Object key fields) (Row.Object values) = AllZip (λ field value. FitsKind field.kind value) fields values
FitsShape (Shape.List element) (Row.List ordinals) = Unit {0}
FitsShape (Shape.Set element) (Row.Set ordinals) = Rises ordinals
FitsShape (Shape.Map key value) (Row.Map pairs) = Rises (map (λ pair. pair.0) pairs)
FitsShape _ _ = ⊥

-- the numbers of a value are in the range of its kind: an INT of 32 bits, a LONG of 64, units below 2^16, an ordinal below 2^32
abbrev pub IsValueInRange : Value → Type 0
IsValueInRange Value.Null = Unit {0}
IsValueInRange (Value.Int number) = FitsSigned w32 number
IsValueInRange (Value.Long number) = FitsSigned w64 number
IsValueInRange (Value.Bool flag) = Unit {0}
IsValueInRange (Value.Text units) = All (λ unit. unit < 2 ^ 16) units
IsValueInRange (Value.Bytes bytes) = Unit {0}
IsValueInRange (Value.Ref ordinal) = ordinal < 2 ^ 32

-- the numbers of a row are in range
abbrev pub IsRowInRange : Row → Type 0
IsRowInRange (Row.Object values) = All IsValueInRange values
IsRowInRange (Row.List ordinals) = All (λ ordinal. ordinal < 2 ^ 32) ordinals
IsRowInRange (Row.Set ordinals) = All (λ ordinal. ordinal < 2 ^ 32) ordinals
IsRowInRange (Row.Map pairs) = All (λ pair. (pair.0 < 2 ^ 32) × (pair.1 < 2 ^ 32)) pairs

-- the row that a value names: the type's name, and the ordinal
abbrev pub references_of_value : FieldKind → Value → List (Name × ℕ)
references_of_value (FieldKind.Reference name) (Value.Ref ordinal) = (name, ordinal) ∷ []
references_of_value _ _ = []

-- the rows that a row names, in its order: each type's name, and the ordinal
abbrev pub references_of_row : Shape → Row → List (Name × ℕ)
references_of_row (Shape.Object key fields) (Row.Object values) = flat_map (λ part. references_of_value part.0.kind part.1) (zip fields values)
references_of_row (Shape.List element) (Row.List ordinals) = map (λ ordinal. (element, ordinal)) ordinals
references_of_row (Shape.Set element) (Row.Set ordinals) = map (λ ordinal. (element, ordinal)) ordinals
references_of_row (Shape.Map key value) (Row.Map pairs) = flat_map (λ pair. (key, pair.0) ∷ (value, pair.1) ∷ []) pairs
references_of_row _ _ = []

-- the least number of so many bits, which a blob cannot hold
abbrev pub is_least : ℕ → ℤ → Bool
is_least bits (pos number) = false
is_least bits (negsuc number) = number == 2 ^ (bits - 1) - 1

-- the value that a blob holds in this one's place: the least INT and the least LONG become null
abbrev pub stored_value : Value → Value
stored_value (Value.Int number) = (if is_least 32 number then Value.Null else Value.Int number)
stored_value (Value.Long number) = (if is_least 64 number then Value.Null else Value.Long number)
stored_value value = value

-- the row that a blob holds in this one's place
abbrev pub stored_row : Row → Row
stored_row (Row.Object values) = Row.Object (map stored_value values)
stored_row row = row
