-- The values of a key from JSON: one for each path, in their order, each a value of the field at the end of its path.
use Rattle.std.specs.Prelude.{◌≡◌, List, [], ◌∷◌, Option, Some, None, Result, Ok, Err}
use Rattle.std.specs.List.{AllZip}
use Rattle.serde_json.specs.Data.{Data, array, Items, no_items, item}
use Rattle.schema_model.specs.declared.model.path.Path.{Path}
use Rattle.schema_model.specs.declared.schema.FieldKind.{FieldKind}
use Rattle.schema_model.specs.declared.schema.Schema.{Schema}
use Rattle.row_model.specs.declared.row.Value.{Value}
use Rattle.schema_model.specs.declared.reason.Reason.{Reason}
use Rattle.row_model.specs.Key.{kind_along, with_first}
use Rattle.row_model.specs.Row.{stored_value}
use Rattle.json_values.specs.declared.fault.KeyFault.{KeyFault}
use Rattle.json_values.specs.ReadValue.{read_value}

-- a value that is not null once it is stored: the least INT and the least LONG count as null
abbrev pub if_stored : Value → Value → Option Value
if_stored value Value.Null = None
if_stored value stored = Some value

-- what was read, where it is a value that a key may have
abbrev pub key_part : Result Value Reason → Option Value
key_part (Ok value) = if_stored value (stored_value value)
key_part (Err reason) = None

-- What each answer tells of one value of a key.
abbrev pub TellsPart : Option Value → Result Value KeyFault → Type 0
TellsPart part (Ok value) = part ≡ Some value
TellsPart part (Err KeyFault.Shape) = part ≡ None
TellsPart part (Err KeyFault.Memory) = Unit {0}

-- the values of a key, one for each field of these kinds
abbrev pub key_parts : List FieldKind → Items → Option (List Value)
key_parts [] no_items = Some []
key_parts (kind ∷ kinds) (item value values) = with_first (key_part (read_value kind value)) (key_parts kinds values)
key_parts _ _ = None

-- the values of an array
abbrev pub key_values : List FieldKind → Data → Option (List Value)
key_values kinds (array values) = key_parts kinds values
key_values kinds _ = None

-- These are the kinds of the fields at the ends of paths.
abbrev pub AreKinds : List Schema → List Path → List FieldKind → Type 0
AreKinds schemas paths kinds = AllZip (λ path kind. kind_along schemas path.type_index path.fields ≡ Some kind) paths kinds

-- The JSON is the array of the values of this key: as many as there are paths, each a value of its field that is not null.
pub record SpellsKey (schemas : List Schema) (paths : List Path) (json : Data) (key : List Value) : Type 0 where
  pub kinds : List FieldKind
  pub are : AreKinds schemas paths kinds
  pub values : key_values kinds json ≡ Some key

-- What each answer tells of the JSON.
abbrev pub TellsKey : List Schema → List Path → Data → Result (List Value) KeyFault → Type 0
TellsKey schemas paths json (Ok key) = SpellsKey schemas paths json key
TellsKey schemas paths json (Err KeyFault.Shape) = (key : List Value) → SpellsKey schemas paths json key → ⊥
TellsKey schemas paths json (Err KeyFault.Memory) = Unit {0}
