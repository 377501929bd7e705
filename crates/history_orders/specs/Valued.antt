-- The rows of a type that have a value in a field, or from which fields lead to it.
use Rattle.std.specs.Prelude.{◌≡◌, ◌<◌, ℕ, List, Some, Contains}
use Rattle.hol_varint.specs.TextUnits.{units_bytes}
use Rattle.schema_model.specs.declared.schema.Schema.{Schema}
use Rattle.row_model.specs.declared.row.Value.{Value}
use Rattle.row_model.specs.Key.{ordinal_in, unless_null, value_along, value_in}
use Rattle.row_model.specs.Table.{IsLive, Table, row_at}

-- The live ordinals of a type whose records have the value in the field are among these. No record has a null.
abbrev pub HasValued : Table → ℕ → ℕ → Value → List ℕ → Type 0
HasValued table t field value among = (ordinal : ℕ) → IsLive table t ordinal → unless_null (value_in (row_at table t ordinal) field) ≡ Some value → Contains among ordinal

-- The same of the ordinals below a limit.
abbrev pub HasValuedBelow : Table → ℕ → ℕ → Value → ℕ → List ℕ → Type 0
HasValuedBelow table t field value limit among = (ordinal : ℕ) → ordinal < limit → IsLive table t ordinal → unless_null (value_in (row_at table t ordinal) field) ≡ Some value → Contains among ordinal

-- The live ordinals of a type from whose rows fields lead to the value are among these.
abbrev pub HasLed : List Schema → Table → ℕ → List ℕ → Value → List ℕ → Type 0
HasLed schemas table t fields value among = (ordinal : ℕ) → IsLive table t ordinal → value_along schemas table t ordinal fields ≡ Some value → Contains among ordinal

-- The live ordinals of a type whose records name in the field one of some rows are among these.
abbrev pub HasNaming : Table → ℕ → ℕ → List ℕ → List ℕ → Type 0
HasNaming table type_index field named among =
    (ordinal other : ℕ) → IsLive table type_index ordinal → ordinal_in (value_in (row_at table type_index ordinal) field) ≡ Some other → Contains named other → Contains among ordinal

-- These are the bytes of the value, if it is a text or bytes.
abbrev pub AreBytesOf : Value → List ℕ → Type 0
AreBytesOf (Value.Text units) bytes = bytes ≡ units_bytes units
AreBytesOf (Value.Bytes octets) bytes = bytes ≡ octets
AreBytesOf _ bytes = Unit {0}
