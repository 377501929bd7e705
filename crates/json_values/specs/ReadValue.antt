-- The value of a field from its JSON: which value it gives, or for which reason it gives none.
use Rattle.std.specs.Prelude.{◌≡◌, ◌-◌, ◌^◌, ℕ, ℤ, pos, negsuc, Bool, List, [], ◌∷◌, Option, Some, None, Result, Ok, Err, nat_lt, if◌then◌else◌}
use Rattle.hex.specs.Hex.{decode_of}
use Rattle.hex.specs.declared.error.FromHexError.{FromHexError}
use Rattle.hol_varint.specs.TextUnits.{text_units}
use Rattle.serde_json.specs.Data.{unsigned, negative, float, Data, null, boolean, number, string, array, Items, no_items, item}
use Rattle.serde_json.specs.Find.{as_i64}
use Rattle.schema_model.specs.declared.schema.FieldKind.{FieldKind}
use Rattle.row_model.specs.declared.row.Value.{Value}
use Rattle.schema_model.specs.declared.reason.Reason.{Reason}
use Rattle.schema_model.specs.declared.reason.Reason.TheVariants.{OtherKind, NumberOutOfRange, NotHexadecimal, UnitOutOfRange}
use Rattle.json_values.specs.declared.fault.ValueFault.{ValueFault}

-- whether a signed number has so many bits
abbrev pub has_bits : ℕ → ℤ → Bool
has_bits bits (pos size) = nat_lt size (2 ^ (bits - 1))
has_bits bits (negsuc size) = nat_lt size (2 ^ (bits - 1))

-- the number, where there is one of so many bits
abbrev pub read_signed : ℕ → Option ℤ → Result ℤ Reason
read_signed bits None = Err NumberOutOfRange
read_signed bits (Some value) = if has_bits bits value then Ok value else Err NumberOutOfRange

-- the signed number of a JSON value
abbrev pub read_number : ℕ → Data → Result ℤ Reason
read_number bits (number found) = read_signed bits (as_i64 found)
read_number bits _ = Err OtherKind

-- true or false
abbrev pub read_flag : Data → Result Bool Reason
read_flag (boolean flag) = Ok flag
read_flag _ = Err OtherKind

-- a unit of a STRING, which is given as the array of its units
abbrev pub read_unit : Data → Result ℕ Reason
read_unit (number (unsigned unit)) = if nat_lt unit (2 ^ 16) then Ok unit else Err UnitOutOfRange
read_unit (number (negative unit)) = Err UnitOutOfRange
read_unit (number (float unit)) = Err UnitOutOfRange
read_unit _ = Err OtherKind

-- one thing before others, where both are there; the first fault counts
abbrev pub before : {A : Type 0} → Result A Reason → Result (List A) Reason → Result (List A) Reason
before (Err reason) rest = Err reason
before (Ok first) (Err reason) = Err reason
before (Ok first) (Ok rest) = Ok (first ∷ rest)

-- what the items of an array give, each by itself
abbrev pub read_each : {A : Type 0} → (Data → Result A Reason) → Items → Result (List A) Reason
read_each read no_items = Ok []
read_each read (item value items) = before (read value) (read_each read items)

-- the units of a STRING: of a text, or given one by one
abbrev pub read_text : Data → Result (List ℕ) Reason
read_text (string text) = Ok (text_units text)
read_text (array items) = read_each read_unit items
read_text _ = Err OtherKind

-- the bytes that were decoded
abbrev pub decoded : Result (List ℕ) FromHexError → Result (List ℕ) Reason
decoded (Ok bytes) = Ok bytes
decoded (Err error) = Err NotHexadecimal

-- the bytes of a text of hexadecimal digits, in either case
abbrev pub read_bytes : Data → Result (List ℕ) Reason
read_bytes (string text) = decoded (decode_of text)
read_bytes _ = Err OtherKind

-- a value made of what was read
abbrev pub made_of : {A : Type 0} → (A → Value) → Result A Reason → Result Value Reason
made_of make (Ok found) = Ok (make found)
made_of make (Err reason) = Err reason

-- the value of a field of this kind, which is not null
abbrev pub read_kind : FieldKind → Data → Result Value Reason
read_kind FieldKind.Int value = made_of Value.Int (read_number 32 value)
read_kind FieldKind.Long value = made_of Value.Long (read_number 64 value)
read_kind FieldKind.Boolean value = made_of Value.Bool (read_flag value)
read_kind FieldKind.Text value = made_of Value.Text (read_text value)
read_kind FieldKind.Bytes value = made_of Value.Bytes (read_bytes value)
read_kind (FieldKind.Reference to) value = Err OtherKind

-- the value of a field of a kind without a reference; null is the null of every kind
abbrev pub read_value : FieldKind → Data → Result Value Reason
read_value kind null = Ok Value.Null
read_value kind value = read_kind kind value

-- What each answer tells of what there is to read.
abbrev pub Tells : {A : Type 0} → Result A Reason → Result A ValueFault → Type 0
Tells read (Ok found) = read ≡ Ok found
Tells read (Err (ValueFault.Field reason)) = read ≡ Err reason
Tells read (Err ValueFault.Memory) = Unit {0}
