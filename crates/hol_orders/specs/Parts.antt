-- The parts of orders as JSON.
use Rattle.std.specs.Prelude.{Bool, ℕ, ℤ, List, map, codes, Option}
use Rattle.serde_json.specs.Data.{Data, number, unsigned, array, object, no_items, item, Members, no_members, member}
use Rattle.serde_json.specs.Find.{of_integer}
use Rattle.serde_json.specs.View.{items_of, view}
use Rattle.record_stream.specs.CycleLine.{saying}
use Rattle.record_stream.specs.RecordLine.{added_by}
use Rattle.hol_orders.specs.declared.added.Added.{Added}
use Rattle.hol_orders.specs.declared.added.Added.TheVariants.{Json, Line}
use Rattle.hol_orders.specs.declared.order.NextState.{NextState}
use Rattle.hol_orders.specs.declared.order.StateChange.{StateChange}

-- a whole number
abbrev pub whole : ℕ → Data
whole n = number (unsigned n)

-- an array of two
abbrev pub pair : Data → Data → Data
pair first second = array (item first (item second no_items))

-- an array of three
abbrev pub triple : Data → Data → Data → Data
triple first second third = array (item first (item second (item third no_items)))

-- an array of whole numbers
abbrev pub versions_data : List ℕ → Data
versions_data versions = array (items_of (map whole versions))

-- members `tag` and `version` alone
abbrev pub tag_and_version : Data → Data → Members
tag_and_version tag version = member (codes "tag") tag (member (codes "version") version no_members)

-- an object that has members `add`, `tag` and `version` alone, and `snapshot`, where it says whether one is put
abbrev pub state_data : Data → Option Bool → Data → Data → Data
state_data add snapshot tag version = object (member (codes "add") add (saying snapshot (tag_and_version tag version)))

-- an object that has members `put`, `remove`, `tag` and `version` alone
abbrev pub change_data : Data → Data → Data → Data → Data
change_data put remove tag version = object
    (member (codes "put") put
    (member (codes "remove") remove
    (member (codes "tag") tag
    (member (codes "version") version no_members))))

-- What a cycle asks for: the version and the tag of the next state, the records that it adds, by type, and whether its snapshot is put, where this is
-- said.
pub record AskedState : Type 0 where
  pub version : ℕ
  pub tag : ℤ
  pub add : Data
  pub snapshot : Option Bool

-- the records that a cycle adds or a change puts, wherever they are: a value, or what a line adds
abbrev pub added : Added → Data
added (Json add) = view add
added (Line line) = added_by line

abbrev pub asked_state : NextState → AskedState
asked_state next = record { version = next.version; tag = next.tag; add = added next.add; snapshot = next.snapshot }

abbrev pub state_asked : AskedState → Data
state_asked asked = state_data asked.add asked.snapshot (number (of_integer asked.tag)) (whole asked.version)

-- What a change asks for: the version and the tag of the next state, the records that are put into the state before it and the keys of those that are
-- removed from it, each by type.
pub record AskedChange : Type 0 where
  pub version : ℕ
  pub tag : ℤ
  pub put : Data
  pub remove : Data

abbrev pub asked_change : StateChange → AskedChange
asked_change change = record { version = change.version; tag = change.tag; put = added change.put; remove = view change.remove }

abbrev pub change_asked : AskedChange → Data
change_asked asked = change_data asked.put asked.remove (number (of_integer asked.tag)) (whole asked.version)
