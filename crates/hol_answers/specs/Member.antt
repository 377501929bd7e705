-- The objects of answers: their members, each a name and what it holds.
use Rattle.std.specs.Prelude.{ℕ, ℤ, List, [], ◌∷◌, Option, Some, None, map}
use Rattle.serde_json.specs.Data.{Data, Members, null, number, array, object, no_members, member}
use Rattle.serde_json.specs.Find.{of_integer}
use Rattle.serde_json.specs.View.{items_of}

-- a number that may be negative
abbrev pub integer : ℤ → Data
integer z = number (of_integer z)

-- an array of as many items as there are
abbrev pub list_of : {A : Type 0} → (A → Data) → List A → Data
list_of data_of items = array (items_of (map data_of items))

-- null where there is none
abbrev pub or_null : {A : Type 0} → (A → Data) → Option A → Data
or_null data_of None = null
or_null data_of (Some thing) = data_of thing

-- A member of an object: its name, and what it holds.
abbrev pub Member : Type 0
Member = List ℕ × Data

-- The members of an object, and the object that has them.
abbrev pub joined : List Member → Members
joined [] = no_members
joined (one ∷ members) = member one.0 one.1 (joined members)

abbrev pub says : List Member → Data
says members = object (joined members)
