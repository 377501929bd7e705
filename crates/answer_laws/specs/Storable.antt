-- Data that a value of serde_json can hold, and the machines whose records print as such.
use Rattle.std.specs.Prelude.{◌≡◌, ◌<◌, ◌^◌, ℕ, List, length, IsUtf8, int_lt, pos, true}
use Rattle.serde_json.specs.Data.{Data, Num, Items, Members, null, boolean, array, object, number, string, unsigned, negative, float, no_items, item, no_members, member}
use Rattle.serde_json.specs.Events.{items_len}
use Rattle.schema_model.specs.declared.schema.Schema.{Schema}
use Rattle.row_model.specs.Table.{IsLive, Table}
use Rattle.row_model.specs.Unfold.{unfold_row}
use Rattle.record_json.specs.PrintTree.{PrintsTree}
use Rattle.hollow_machine.specs.State.{Machine}
use Rattle.answer_laws.specs.Ranges.{HoldsOfTables}

-- The bytes are a text, and as many as a `String` can have.
abbrev pub IsStorableText : List ℕ → Type 0
IsStorableText bytes = IsUtf8 bytes × (length bytes < 2 ^ 63)

-- The number is one without a fraction.
abbrev pub IsStorableNumber : Num → Type 0
IsStorableNumber (unsigned value) = Unit {0}
IsStorableNumber (negative value) = int_lt value (pos 0) ≡ true
IsStorableNumber (float value) = ⊥

-- Its strings and names are texts, its numbers have no fractions, and no array or string is longer than a `Vec` can be.
abbrev mutual
  pub IsStorable : Data → Type 0
  IsStorable null = Unit {0}
  IsStorable (boolean truth) = Unit {0}
  IsStorable (number value) = IsStorableNumber value
  IsStorable (string bytes) = IsStorableText bytes
  IsStorable (array items) = (items_len items < 2 ^ 63) × AreStorable items
  IsStorable (object members) = HasStorable members

  pub AreStorable : Items → Type 0
  AreStorable no_items = Unit {0}
  AreStorable (item datum items) = IsStorable datum × AreStorable items

  pub HasStorable : Members → Type 0
  HasStorable no_members = Unit {0}
  HasStorable (member name datum members) = IsStorableText name × IsStorable datum × HasStorable members

-- What the record of a live row of the table prints as can be held.
abbrev pub PrintsStorable : List Schema → Table → Type 0
PrintsStorable schemas table =
    (type_index ordinal : ℕ) (printed : Data) → IsLive table type_index ordinal → PrintsTree schemas type_index (unfold_row schemas table type_index ordinal) printed → IsStorable printed

-- So it is with the rows of the consumer's state, those from before its last step, and the older ones that are kept.
abbrev pub HasStorableRows : Machine → Type 0
HasStorableRows machine = HoldsOfTables PrintsStorable machine
