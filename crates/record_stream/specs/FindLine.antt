-- The line of a look-up by a key: `find` with an array of the type's name, the paths and the values of the key.
use Rattle.std.specs.Prelude.{ℕ, List, codes}
use Rattle.serde_json.specs.Data.{Data, array, item, member, no_items, no_members, object, string}

-- the JSON of a look-up
abbrev pub find_data : List ℕ → Data → Data → Data
find_data name paths values = object (member (codes "find") (array (item (string name) (item paths (item values no_items)))) no_members)
