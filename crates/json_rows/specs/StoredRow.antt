-- JSON of a stored row: what a row prints as, with ordinals in place of the records that it names.
use Rattle.std.specs.Prelude.{◌≡◌, ◌⊎◌, ℕ, List, map, zip}
use Rattle.std.specs.List.{AllZip, fold}
use Rattle.hex.specs.Hex.{encode_lower}
use Rattle.hol_varint.specs.TextUnits.{AreWellFormed, IsTextOf}
use Rattle.schema_model.specs.declared.schema.name.Name.{Name}
use Rattle.row_model.specs.declared.row.Row.{Row}
use Rattle.row_model.specs.declared.row.Value.{Value}
use Rattle.schema_model.specs.declared.schema.Field.{Field}
use Rattle.schema_model.specs.declared.schema.Shape.{Shape}
use Rattle.schema_model.specs.Parts.{field_names}
use Rattle.serde_json.specs.Data.{Data, null, boolean, number, unsigned, string, array, object, no_items, item, Members, no_members, put}
use Rattle.serde_json.specs.Find.{of_integer}
use Rattle.serde_json.specs.View.{items_of}

-- an array of numbers
abbrev pub numbers_data : List ℕ → Data
numbers_data numbers = array (items_of (map (λ n. number (unsigned n)) numbers))

-- an array of pairs of numbers
abbrev pub pairs_data : List (ℕ × ℕ) → Data
pairs_data pairs = array (items_of (map (λ pair. array (item (number (unsigned pair.0)) (item (number (unsigned pair.1)) no_items))) pairs))

-- a STRING prints as the text that has its units, where they are well-formed UTF-16, and else as the array of its units
abbrev pub IsTextData : List ℕ → Data → Type 0
IsTextData units printed =
    ((text : List ℕ) × IsTextOf units text × (printed ≡ string text)) ⊎ ((AreWellFormed units → ⊥) × (printed ≡ numbers_data units))

-- a value prints so: a null as null, INT and LONG as numbers, a BOOLEAN as true or false, a STRING as above,
-- BYTES as a text of two lower-case hexadecimal digits for each byte, and a REFERENCE as the ordinal that it names
abbrev pub IsValueData : Value → Data → Type 0
IsValueData Value.Null printed = printed ≡ null
IsValueData (Value.Int value) printed = printed ≡ number (of_integer value)
IsValueData (Value.Long value) printed = printed ≡ number (of_integer value)
IsValueData (Value.Bool flag) printed = printed ≡ boolean flag
IsValueData (Value.Text units) printed = IsTextData units printed
IsValueData (Value.Bytes bytes) printed = printed ≡ string (encode_lower bytes)
IsValueData (Value.Ref ordinal) printed = printed ≡ number (unsigned ordinal)

-- the members of an object that has each of these under its name, in byte order of the names
abbrev pub members_of_fields : List (Name × Data) → Members
members_of_fields parts = fold (λ members part. put part.0 part.1 members) no_members parts

-- a record prints with these members: each field has what its value prints as under its name
abbrev pub AreRecordMembers : List Field → List Value → Members → Type 0
AreRecordMembers fields values members =
    (printed : List Data) × AllZip IsValueData values printed × (members ≡ members_of_fields (zip (field_names fields) printed))

-- a record prints as an object with these members
abbrev pub IsRecordData : List Field → List Value → Data → Type 0
IsRecordData fields values printed = (members : Members) × AreRecordMembers fields values members × (printed ≡ object members)

-- a row of a type of this shape prints so: a record as an object, a list or a set as the array of its ordinals,
-- and a map as the array of its pairs of ordinals
abbrev pub IsRowData : Shape → Row → Data → Type 0
IsRowData (Shape.Object key fields) (Row.Object values) printed = IsRecordData fields values printed
IsRowData (Shape.List element) (Row.List ordinals) printed = printed ≡ numbers_data ordinals
IsRowData (Shape.Set element) (Row.Set ordinals) printed = printed ≡ numbers_data ordinals
IsRowData (Shape.Map key value) (Row.Map pairs) printed = printed ≡ pairs_data pairs
IsRowData _ _ printed = ⊥
