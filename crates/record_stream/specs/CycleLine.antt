-- The line of a cycle: `cycle` with `version`, `tag`, `add` and perhaps `snapshot`.
use Rattle.std.specs.Prelude.{Bool, Option, Some, None, codes}
use Rattle.serde_json.specs.Data.{Data, Members, boolean, member, no_members, object}

-- These members, and before them whether a snapshot is put, where this is said.
abbrev pub saying : Option Bool → Members → Members
saying None rest = rest
saying (Some snapshot) rest = member (codes "snapshot") (boolean snapshot) rest

-- the JSON of a cycle: its version, its tag, the records that it adds, and whether its snapshot is put, where this is said
abbrev pub cycle_data : Data → Data → Data → Option Bool → Data
cycle_data version tag add snapshot = object (member (codes "cycle")
    (object (member (codes "add") add (saying snapshot (member (codes "tag") tag (member (codes "version") version no_members))))) no_members)
