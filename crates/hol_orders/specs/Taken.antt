-- What is taken apart of a JSON value: the items of an array, the only member of an object, its members one by one.
use Rattle.std.specs.Prelude.{Bool, ◌≡◌, ◌≢◌, ℕ, List, length, map, string_bytes, String, Option, Some, None, Result, Ok, Err}
use Rattle.std.specs.declared.alloc.Global.{Global}
use Rattle.serde_json.specs.Data.{Data, array, object, Members, no_members, member}
use Rattle.serde_json.specs.View.{view, items_of}
use Rattle.serde_json.specs.declared.value.Value.{Value}
use Rattle.record_stream.specs.CycleLine.{saying}
use Rattle.hol_orders.specs.Parts.{state_data, tag_and_version}
use Rattle.hol_orders.specs.declared.order.OrderFault.{OrderFault}
use Rattle.hol_orders.specs.declared.order.OrderFault.TheVariants.{BadOrder, Memory}

-- the items of an array of so many
abbrev pub TellsItems : ℕ → Data → Result (List Value) OrderFault → Type 0
TellsItems count json (Ok values) = (length values ≡ count) × (array (items_of (map view values)) ≡ json)
TellsItems count json (Err BadOrder) = (items : List Data) → length items ≡ count → array (items_of items) ≢ json
TellsItems count json (Err Memory) = ⊥

-- the name and the value of an object's only member
abbrev pub TellsMember : Data → Option (String Global × Value) → Type 0
TellsMember json None = (name : List ℕ) (content : Data) → object (member name content no_members) ≢ json
TellsMember json (Some found) = object (member (string_bytes found.0) (view found.1) no_members) ≡ json

-- the value of the first member that is left, where it has this name, and what is left then
abbrev pub TellsNext : List ℕ → Members → Members → Result Value OrderFault → Type 0
TellsNext name before after (Ok value) = before ≡ member name (view value) after
TellsNext name before after (Err BadOrder) = (content : Data) (rest : Members) → before ≢ member name content rest
TellsNext name before after (Err Memory) = ⊥

-- the three parts of a value of such a form
abbrev pub TellsThree : (Data → Data → Data → Data) → Data → Result (Value × Value × Value) OrderFault → Type 0
TellsThree form json (Ok found) = form (view found.0) (view found.1) (view found.2) ≡ json
TellsThree form json (Err BadOrder) = (first second third : Data) → form first second third ≢ json
TellsThree form json (Err Memory) = ⊥

-- Whether a snapshot is put, where the members that are left say so before the tag and the version, and what is left then. Whoever reads these members
-- as such reads the same.
abbrev pub TellsSaid : Members → Members → Result (Option Bool) OrderFault → Type 0
TellsSaid before after (Ok said) =
    (before ≡ saying said after)
    × ((snapshot : Option Bool) (tag version : Data) → before ≡ saying snapshot (tag_and_version tag version) → after ≡ tag_and_version tag version)
TellsSaid before after (Err BadOrder) = (snapshot : Option Bool) (tag version : Data) → before ≢ saying snapshot (tag_and_version tag version)
TellsSaid before after (Err Memory) = ⊥

-- what a value says that a cycle asks for: the records, whether a snapshot is put, the tag and the version
abbrev pub TellsState : Data → Result (Value × Option Bool × Value × Value) OrderFault → Type 0
TellsState json (Ok found) = state_data (view found.0) found.1 (view found.2) (view found.3) ≡ json
TellsState json (Err BadOrder) = (add : Data) (snapshot : Option Bool) (tag version : Data) → state_data add snapshot tag version ≢ json
TellsState json (Err Memory) = ⊥

-- the same of four parts
abbrev pub TellsFour : (Data → Data → Data → Data → Data) → Data → Result (Value × Value × Value × Value) OrderFault → Type 0
TellsFour form json (Ok found) = form (view found.0) (view found.1) (view found.2) (view found.3) ≡ json
TellsFour form json (Err BadOrder) = (first second third fourth : Data) → form first second third fourth ≢ json
TellsFour form json (Err Memory) = ⊥
