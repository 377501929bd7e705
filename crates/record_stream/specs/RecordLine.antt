-- The line of an order whose records are read one by one: its members in any order, and under one of them an array of records for each type.
use Rattle.std.specs.Prelude.{◌≡◌, ◌+◌, ℕ, List, [], ◌∷◌, All, codes, drop, map, Option, Some, None, option_and_then, slice_get, unwrap_or}
use Rattle.json.specs.Token.{Token, begin_array, begin_object, end_object, key}
use Rattle.json.specs.Json.{value}
use Rattle.json.specs.Lex.{tokens as tokens_of}
use Rattle.serde_json.specs.Data.{Data, Members, array, member, no_items, no_members, null, object, put}
use Rattle.serde_json.specs.Find.{get}
use Rattle.serde_json.specs.Read.{converted, of_json, read}
use Rattle.serde_json.specs.View.{items_of}
use Rattle.record_stream.specs.Holder.{other_name, records_name, word}
use Rattle.record_stream.specs.Records.{AreAhead}
use Rattle.record_stream.specs.declared.holder.Holder.{Holder}

-- These members, and before them the one of this name, where there is one.
abbrev pub with_named : List ℕ → Option Data → Members → Members
with_named name None rest = rest
with_named name (Some json) rest = member name json rest

-- those of an order's members that there are: the records, the other one, the tag and the version
abbrev pub parts_data : Holder → Option Data → Option Data → Option Data → Option Data → Members
parts_data holder records other tag version =
    with_named (records_name holder) records (with_named (other_name holder) other (with_named (codes "tag") tag (with_named (codes "version") version no_members)))

-- the JSON of an order: its version, its tag, its records, and what stands under its other member, where there is one
abbrev pub holder_data : Holder → Data → Data → Data → Option Data → Data
holder_data holder version tag records other = object (member (word holder) (object (parts_data holder (Some records) other (Some tag) (Some version))) no_members)

-- the records of an order, by type: what stands under `add` of a cycle, or under `put` of a change, null where there is none
abbrev pub records_of : Option Data → Data
records_of None = null
records_of (Some json) =
    unwrap_or (option_and_then (get (codes "add")) (get (codes "cycle") json)) (unwrap_or (option_and_then (get (codes "put")) (get (codes "change") json)) null)

-- the records that the cycle of a line adds, or that its change puts
abbrev pub added_by : List ℕ → Data
added_by line = records_of (read line)

-- a type's name and its records
abbrev pub Typed : Type 0
Typed = List ℕ × List Data

-- How deep arrays and objects may nest in the members of an order: two objects are around them.
abbrev pub part_depth : ℕ
part_depth = 125

-- a name and the JSON under it
abbrev pub Named : Type 0
Named = List ℕ × Data

-- The tokens begin with these members of an object, in their order; the rest follows. Arrays and objects nest no deeper than that in their values.
abbrev pub AreMembers : ℕ → List Token → List Named → List Token → Type 0
AreMembers depth tokens [] rest = tokens ≡ rest
AreMembers depth tokens (named ∷ others) rest =
    (from : List Token) × (behind : List Token) × (tokens ≡ key named.0 ∷ from) × (converted of_json (value depth from) ≡ Some (named.1, behind)) × AreMembers depth behind others rest

-- the members, and these put among them, one after another: of those of one name the last one counts
abbrev pub put_all : List Named → Members → Members
put_all [] there = there
put_all (named ∷ others) there = put_all others (put named.0 named.1 there)

-- The tokens begin with the array of these records; the rest follows.
abbrev pub IsArray : List Token → List Data → List Token → Type 0
IsArray tokens records rest = (inside : List Token) × (tokens ≡ begin_array ∷ inside) × AreAhead inside records rest

-- The tokens begin with these types, each a name with the array of its records, and the brace that closes their object; the rest follows.
abbrev pub AreListed : List Token → List Typed → List Token → Type 0
AreListed tokens [] rest = tokens ≡ end_object ∷ rest
AreListed tokens (typed ∷ others) rest =
    (records : List Token) × (behind : List Token) × (tokens ≡ key typed.0 ∷ records) × IsArray records typed.1 behind × AreListed behind others rest

-- the members, and these types put among them, one after another
abbrev pub with_types : List Typed → Members → Members
with_types [] there = there
with_types (typed ∷ others) there = with_types others (put typed.0 (array (items_of typed.1)) there)

-- None of the names is this one.
abbrev pub AreOther : List ℕ → List (List ℕ) → Type 0
AreOther name names = All (λ other. other ≡ name → ⊥) names

-- the names of types, in their order
abbrev pub names_of : List Typed → List (List ℕ)
names_of types = map (λ typed. typed.0) types

-- The tokens begin with members of an order, of which the first one of this name lists these types.
pub record AreAdded (name : List ℕ) (tokens : List Token) (types : List Typed) : Type 0 where
  pub front : List Named
  pub inside : List Token
  pub behind : List Token
  pub ahead : AreMembers part_depth tokens front (key name ∷ begin_object ∷ inside)
  pub none : AreOther name (map (λ named. named.0) front)
  pub listed : AreListed inside types behind

-- The tokens are those of an order whose records can be read from its line: it has no members but these, in any order, and the records once.
pub record IsHeld (holder : Holder) (tokens : List Token) (version tag : Data) (types : List Typed) (other : Option Data) : Type 0 where
  pub inside : List Token
  pub opened : tokens ≡ begin_object ∷ key (word holder) ∷ begin_object ∷ inside
  pub parts : List Named
  pub ahead : AreMembers part_depth inside parts (end_object ∷ end_object ∷ [])
  pub are : put_all parts no_members ≡ parts_data holder (Some (object (with_types types no_members))) other (Some tag) (Some version)
  pub added : AreAdded (records_name holder) inside types

-- the same names, each with no records
abbrev pub bare : Members → Members
bare no_members = no_members
bare (member name json rest) = member name (array no_items) (bare rest)

-- What looking for the last one of some names that is this one answers: its place, or that none is.
abbrev pub TellsLast : List ℕ → List (List ℕ) → Option ℕ → Type 0
TellsLast name names None = AreOther name names
TellsLast name names (Some place) = (slice_get names place ≡ Some name) × AreOther name (drop (place + 1) names)

-- What looking for the records of a type answers: the tokens of those that stand under its name, or that there is no such type.
abbrev pub TellsRecords : List ℕ → Data → Option (List Token) → Type 0
TellsRecords name add None = get name add ≡ None
TellsRecords name add (Some tokens) = (records : List Data) × (rest : List Token) × (get name add ≡ Some (array (items_of records))) × AreAhead tokens records rest

-- What is kept of a line: it is such an order, and these are the names of its types, and these as they stand in the line.
pub record IsKept (holder : Holder) (line : List ℕ) (names : Data) (order : List (List ℕ)) : Type 0 where
  pub version : Data
  pub tag : Data
  pub types : List Typed
  pub other : Option Data
  pub held : IsHeld holder (tokens_of line) version tag types other
  pub named : names ≡ object (bare (with_types types no_members))
  pub ordered : order ≡ names_of types
