-- The line of a change: `change` with `version`, `tag`, `put` and `remove`.
use Rattle.std.specs.Prelude.{codes}
use Rattle.serde_json.specs.Data.{Data, member, no_members, object}

-- the JSON of a change: its version, its tag, the records that it puts, and the keys of those that it removes
abbrev pub change_data : Data → Data → Data → Data → Data
change_data version tag put remove = object (member (codes "change")
    (object (member (codes "put") put (member (codes "remove") remove (member (codes "tag") tag (member (codes "version") version no_members))))) no_members)
